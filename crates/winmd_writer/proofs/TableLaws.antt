-- A set of rows of which two tables are sorted.
use Rattle.std.proofs.Common.{◌≡◌, ℕ, ◌<◌, false, List, [], length, set, get_or, refl, sym, ap, subst, ◌∙◌, arith, inl, inr}
use Rattle.std.specs.Prelude.{Vec, ◌==◌}
use Rattle.arrayvec.specs.ArrayVec.{ArrayVec}
use Rattle.std.specs.declared.alloc.Global.{Global}
use Rattle.std.proofs.lemmas.Bool.{eqb-false}
use Rattle.std.proofs.lemmas.List.{get_or-set_same, get_or-set_other, length-set}
use Rattle.md_schema.specs.declared.table.Table.{Table}
use Rattle.md_schema.specs.declared.table.Table.TheVariants as tables
use Rattle.md_schema.specs.Schema.{place_of}
use Rattle.md_tables.specs.Lists.{cells_in, lists_in}
use Rattle.md_tables.proofs.ListLemmas.{length-lists, list_at, lists_set}
use Rattle.winmd_lines.specs.Orders.{sort_by}
use Rattle.winmd_lines.proofs.LineLaws.{either, same_place}
use Rattle.winmd_writer.specs.Sorted.{number_in, sorted_rows}

module _ (lists : List (List (List ℕ))) (a b : List (List ℕ)) (many : length lists ≡ 38) where
  others : (n : ℕ) → (n ≡ 9 → ⊥) → (n ≡ 19 → ⊥) → get_or (set (set lists 9 a) 19 b) n [] ≡ get_or lists n []
  others n x y = get_or-set_other (set lists 9 a) 19 n b [] y ∙ get_or-set_other lists 9 n a [] x

  first : get_or (set (set lists 9 a) 19 b) 9 [] ≡ a
  first = get_or-set_other (set lists 9 a) 19 9 b [] (λ e. omega (arith, e)) ∙ get_or-set_same lists 9 a [] (omega (arith, many))

  length_set : length (set lists 9 a) ≡ length lists
  length_set = length-set lists 9 a

  second : get_or (set (set lists 9 a) 19 b) 19 [] ≡ b
  second = get_or-set_same (set lists 9 a) 19 b [] (omega (arith, many, length_set))

  -- any other table
  unsorted : (t : Table) (rows : List (List ℕ)) → (place_of t == 9) ≡ false → (place_of t == 19) ≡ false → sorted_rows t rows ≡ rows
  unsorted tables.CustomAttribute rows h g = absurd cc
  unsorted tables.MethodSemantics rows h g = absurd cc
  unsorted _ rows h g = refl

  at_table : a ≡ sort_by (number_in 0) (get_or lists 9 []) → b ≡ sort_by (number_in 2) (get_or lists 19 []) → (t : Table) → get_or (set (set lists 9 a) 19 b) (place_of t) [] ≡ sorted_rows t (get_or lists (place_of t) [])
  at_table x y t =
      elim (either (place_of t == 9)) [
        | inl e ↦ subst (λ (u : Table). get_or (set (set lists 9 a) 19 b) (place_of u) [] ≡ sorted_rows u (get_or lists (place_of u) [])) (sym (same_place t tables.CustomAttribute e)) (first ∙ x)
        | inr n ↦ elim (either (place_of t == 19)) [
          | inl e ↦ subst (λ (u : Table). get_or (set (set lists 9 a) 19 b) (place_of u) [] ≡ sorted_rows u (get_or lists (place_of u) [])) (sym (same_place t tables.MethodSemantics e)) (second ∙ y)
          | inr m ↦ others (place_of t) (λ e. eqb-false _ _ n e) (λ e. eqb-false _ _ m e) ∙ sym (unsorted t (get_or lists (place_of t) []) n m)
        ]
      ]

-- from the tables as code holds them
pub two_sorted : (held : List (Vec (ArrayVec ℕ) Global)) (a b was_a was_b : Vec (ArrayVec ℕ) Global) → length held ≡ 38 → was_a ≡ get_or held 9 was_a → was_b ≡ get_or (set held 9 a) 19 was_b
    → cells_in a.items ≡ sort_by (number_in 0) (cells_in was_a.items) → cells_in b.items ≡ sort_by (number_in 2) (cells_in was_b.items)
    → (t : Table) → get_or (lists_in (set (set held 9 a) 19 b)) (place_of t) [] ≡ sorted_rows t (get_or (lists_in held) (place_of t) [])
two_sorted held a b was_a was_b many ea eb sa sb t =
    let lists : List (List (List ℕ)) = lists_in held in
    let many_lists : length lists ≡ 38 = length-lists held ∙ many in
    let x : cells_in a.items ≡ sort_by (number_in 0) (get_or lists 9 []) = sa ∙ ap (sort_by (number_in 0)) (sym (list_at held 9 was_a (omega (arith, many)) ea)) in
    let there : 19 < length (set held 9 a) = omega (arith, many, length-set held 9 a) in
    let was : cells_in was_b.items ≡ get_or lists 19 [] =
    sym (list_at (set held 9 a) 19 was_b there eb) ∙ ap (λ (ls : List (List (List ℕ))). get_or ls 19 []) (lists_set held 9 a) ∙ get_or-set_other lists 9 19 (cells_in a.items) [] (λ e. omega (arith, e)) in
    let y : cells_in b.items ≡ sort_by (number_in 2) (get_or lists 19 []) = sb ∙ ap (sort_by (number_in 2)) was in
    ap (λ (ls : List (List (List ℕ))). get_or ls (place_of t) []) (lists_set (set held 9 a) 19 b ∙ ap (λ (ls : List (List (List ℕ))). set ls 19 (cells_in b.items)) (lists_set held 9 a))
    ∙ at_table lists (cells_in a.items) (cells_in b.items) many_lists x y t

-- All rows in turn.
use Rattle.std.proofs.Common.{◌≡◌, ℕ, zero, suc, ◌-◌, ◌≤◌, ◌==◌, true, false, List, [], ◌∷◌, map, length, get_or, Result, Ok, Err, refl, sym, ap, ◌∙◌, arith}
use Rattle.md_schema.specs.Schema.{place_of}
use Rattle.md_schema.specs.Tables.{upto}
use Rattle.md_schema.specs.declared.table.Table.{Table}
use Rattle.md_schema.specs.declared.table.Table.TheVariants as tables
use Rattle.winmd_cells.specs.Seen.{seen, tables_in}
use Rattle.winmd_cells.specs.declared.image.Image.{Image}
use Rattle.winmd_lines.proofs.LineLaws.{same_place}
use Rattle.winmd_lines.specs.Cells.{Numbered, Row, Tables, all_rows, numbered}
use Rattle.winmd_rows.specs.Faults.{Fault, ◌>>=◌}
use Rattle.winmd_sets.specs.Types.{all_begin, lists_begin}
use Rattle.winmd_lists.specs.Begun.{begun_in_turn, well}

pub other : (t : Table) → (t ≡ tables.TypeDef → ⊥) → false ≡ (place_of tables.TypeDef == place_of t)
other t n = elim (place_of tables.TypeDef == place_of t) as (λ b. (place_of tables.TypeDef == place_of t) ≡ b → false ≡ b) [
  | true ↦ λ e. absurd (n (sym (same_place tables.TypeDef t e)))
  | false ↦ λ e. refl
] refl

-- ---- the rows of a table by their numbers

map_upto_same : {A : Type 0} (f g : ℕ → A) (n m : ℕ) → ((k : ℕ) → n ≤ k → f k ≡ g k) → map f (upto n m) ≡ map g (upto n m)
unfolding upto
map_upto_same f g n zero same = refl
map_upto_same f g n (suc m) same = rw (same n (omega arith), map_upto_same f g (suc n) m (λ k above. same k (omega arith))) refl

numbered_is : (n : ℕ) (rows : List Row) → numbered n rows ≡ map (λ k. (k, get_or rows (k - n) [])) (upto n (length rows))
unfolding upto
numbered_is n [] = refl
numbered_is n (row ∷ rows) =
    let here : n - n ≡ 0 = omega arith in
    let later : (k : ℕ) → suc n ≤ k → ◌≡◌ {A = Numbered} (k, get_or rows (k - suc n) []) (k, get_or (row ∷ rows) (k - n) []) = λ k above. (let e : k - n ≡ suc (k - suc n) = omega arith in rw e refl) in
    let tail : numbered (suc n) rows ≡ map (λ k. (k, get_or (row ∷ rows) (k - n) [])) (upto (suc n) (length rows)) = numbered_is (suc n) rows ∙ map_upto_same {A = Numbered} (λ k. (k, get_or rows (k - suc n) [])) (λ k. (k, get_or (row ∷ rows) (k - n) [])) (suc n) (length rows) later in
    rw (here, tail) refl

pub all_seen : (image : Image) (table : Table) (rows : List ℕ) → rows ≡ upto 1 (length ((tables_in image).rows table)) → map (seen image table) rows ≡ all_rows (tables_in image) table
all_seen image table rows e = ap (map (seen image table)) e ∙ sym (numbered_is 1 ((tables_in image).rows table))

-- ---- each list in turn

in_turn : {A : Type 0} (a b c d e : Result (List A) Fault) → (well a >>= λ v. well b >>= λ w. well c >>= λ x. well d >>= λ y. well e) ≡ well (a >>= λ v. b >>= λ w. c >>= λ x. d >>= λ y. e)
in_turn (Err f) b c d e = refl
in_turn (Ok v) (Err f) c d e = refl
in_turn (Ok v) (Ok w) (Err f) d e = refl
in_turn (Ok v) (Ok w) (Ok x) (Err f) e = refl
in_turn (Ok v) (Ok w) (Ok x) (Ok y) e = refl

pub all_in_turn : (t : Tables) → begun_in_turn t ≡ well (all_begin t)
all_in_turn t =
    in_turn (lists_begin t tables.TypeDef 4 tables.Field) (lists_begin t tables.TypeDef 5 tables.MethodDef) (lists_begin t tables.MethodDef 5 tables.Param)
    (lists_begin t tables.EventMap 1 tables.Event) (lists_begin t tables.PropertyMap 1 tables.Property)

-- The names that are found are the names of the set.
use Rattle.std.proofs.Common.{◌≡◌, ℕ, Bool, List, [], ◌∷◌, map, string_bytes, refl, sym, ap, ◌∙◌, inl, inr}
use Rattle.std.specs.Prelude.{◌&&◌, not}
use Rattle.std.specs.List.{filter, list_any}
use Rattle.std.specs.Str.{bytes_eq}
use Rattle.wr_base.specs.Declarations as declared
use Rattle.wr_base.specs.declared.declaration.Declaration.{Declaration}
use Rattle.wr_base.specs.Trees.{DeclTree, decl_tree, name_of, tree_of}
use Rattle.winmd_lines.specs.Makers.{all_makers}
use Rattle.winmd_lines.specs.Names.{is_declared, is_maker, used, names_in_cell, makers_in_cell}
use Rattle.winmd_sets.specs.Rows.{by_text, names_of, own_lines, used_makers, used_refs, used_specs}
use Rattle.winmd_uses.specs.Makers.{maker_of}
use Rattle.winmd_uses.specs.Orders.{Rises}
use Rattle.winmd_uses.specs.Takes.{all_names, has_maker, instances_of}
use Rattle.winmd_uses.specs.Uses.{IsUsed, lines_behind}
use Rattle.winmd_uses.specs.declared.used.Used.{Used}
use Rattle.winmd_uses.proofs.MemberLaws.{contains_texts}
use Rattle.winmd_uses.proofs.TakeLaws.{either}
use Rattle.winmd_uses.proofs.WholeLaws.{same_names}
use Rattle.winmd_names.specs.Seen.{seen}
use Rattle.winmd_names.specs.declared.set_names.SetNames.{SetNames}
use Rattle.winmd_names.proofs.RefLaws.{references_are}

alike : {A : Type 0} (p q : A → Bool) → ((x : A) → p x ≡ q x) → (xs : List A) → filter p xs ≡ filter q xs
alike p q h [] = refl
alike p q h (x ∷ xs) =
    elim (either (q x)) [
      | inl e ↦ rw (h x, e) (ap (λ ws. x ∷ ws) (alike p q h xs))
      | inr e ↦ rw (h x, e) (alike p q h xs)
    ]

pub names_are : (types : List Declaration) (u : Used) (s : SetNames) → IsUsed (map decl_tree types) u → Rises (all_names u) → s.types.types.items ≡ map declared.name_of types
    → map string_bytes s.types.refs.items ≡ all_names u
    → map tree_of s.instances.list.items ≡ by_text (instances_of u) → map maker_of s.makers.items ≡ filter (has_maker u) all_makers → seen s ≡ names_of (map decl_tree types)
names_are types u s is rises t r i m =
    let ds : List DeclTree = map decl_tree types in
    let names : s.types.types.items ≡ map name_of ds = t ∙ same_names types in
    let members : (n : List ℕ) → list_any (bytes_eq n) (all_names u) ≡ (not (is_declared (map name_of ds) n) && list_any (bytes_eq n) (used names_in_cell (lines_behind ds))) = λ n. sym (contains_texts u.names.set n) ∙ is.names n in
    let refs : map string_bytes s.types.refs.items ≡ used_refs (map name_of ds) (lines_behind ds) =
    r ∙ references_are (λ full. not (is_declared (map name_of ds) full)) (all_names u) (used names_in_cell (lines_behind ds)) rises members in
    let specs : map tree_of s.instances.list.items ≡ used_specs (own_lines ds) = i ∙ ap by_text is.specs in
    let makers : map maker_of s.makers.items ≡ used_makers (own_lines ds) = m ∙ alike (has_maker u) (λ maker. list_any (is_maker maker) (used makers_in_cell (own_lines ds))) is.makers all_makers in
    λ j. record { types = names j; refs = refs j; specs = specs j; makers = makers j }

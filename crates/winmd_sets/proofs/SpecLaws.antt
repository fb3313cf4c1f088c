-- A TypeSpec is found by its use, and is read as it.
use Rattle.std.proofs.Common.{◌≡◌, ℕ, suc, ◌+◌, Bool, true, false, List, [], ◌∷◌, ◌++◌, length, map, get_or, Ok, refl, sym, ap, subst, ◌∙◌, append_assoc, arith, inl, inr}
use Rattle.std.specs.Prelude.{◌==◌, ◌||◌, not, bytes_eq}
use Rattle.std.specs.List.{list_any}
use Rattle.std.specs.Ordering.{nat_cmp}
use Rattle.std.specs.Cmp.Lexicographic.{slice_cmp}
use Rattle.std.specs.declared.cmp.Ordering.{Ordering}
use Rattle.std.specs.declared.cmp.Ordering.TheVariants.{Less, Equal, Greater}
use Rattle.std.proofs.lemmas.Bool.{and_parts, eqb-true, eq-eqb}
use Rattle.std.proofs.lemmas.Slice.Eq.{bytes_eq-Decides}
use Rattle.md_schema.specs.declared.table.Table.TheVariants as tables
use Rattle.wr_base.specs.declared.type_use.Base.{Base}
use Rattle.wr_base.specs.declared.type_use.Base.TheVariants.{Boolean, Char, U8, I16, U16, I32, U32, I64, U64, Text, Guid, Object}
use Rattle.winmd_rows.specs.Values.{Offsets}
use Rattle.winmd_lines.specs.Lines.{Line}
use Rattle.winmd_lines.specs.Makers.{Maker}
use Rattle.winmd_lines.specs.Names.{Names, Counts, none, behind, place, used, names_in_cell, specs_in_cell, type_value}
use Rattle.winmd_lines.specs.Positions.{behind_all}
use Rattle.winmd_lines.specs.Cells.{Tables, at}
use Rattle.winmd_sets.specs.Uses.{use_of_cell}
use Rattle.winmd_sets.specs.Rows.{ref_line, maker_line, spec_line, own_lines, all_lines, once, by_text, insert_by_text, placed_by_text, used_specs}
use Rattle.winmd_lines.specs.UsedNames.{names_in_use}
use Rattle.wr_base.specs.Trees.{DeclTree, UseTree, plain, value, reference, instance, UseTrees, no_uses, use_and, same_use, same_uses, base_number, text_of_tree}
use Rattle.winmd_sets.proofs.AttributeLaws.{tables_of}
use Rattle.winmd_lines.proofs.LineLaws.{either, row_is, map-append, behind_all-append}
use Rattle.winmd_sets.proofs.NameLaws.{found}
use Rattle.winmd_sets.proofs.BlobLaws.{spec_again}
use Rattle.winmd_sets.proofs.UsedLaws.{any_left, any_filter, or_left, or_right, used_left, used_right}
use Rattle.winmd_sets.proofs.BlobLaws.{UseOk}

-- ---- same uses are equal

abbrev all_bases : List Base
all_bases = Boolean ∷ Char ∷ U8 ∷ I16 ∷ U16 ∷ I32 ∷ U32 ∷ I64 ∷ U64 ∷ Text ∷ Guid ∷ Object ∷ []

base_is : (b : Base) → get_or all_bases (base_number b) Boolean ≡ b
base_is Boolean = refl
base_is Char = refl
base_is U8 = refl
base_is I16 = refl
base_is U16 = refl
base_is I32 = refl
base_is U32 = refl
base_is I64 = refl
base_is U64 = refl
base_is Text = refl
base_is Guid = refl
base_is Object = refl

same_base : (a b : Base) → (base_number a == base_number b) ≡ true → a ≡ b
same_base a b h = sym (base_is a) ∙ ap (λ (n : ℕ). get_or all_bases n Boolean) (eqb-true (base_number a) (base_number b) h) ∙ base_is b

mutual
  pub same_is : (u v : UseTree) → same_use u v ≡ true → u ≡ v
  same_is (plain a) (plain b) h = ap plain (same_base a b h)
  same_is (value a) (value b) h = ap value ((bytes_eq-Decides a b).0 h)
  same_is (reference a) (reference b) h = ap reference ((bytes_eq-Decides a b).0 h)
  same_is (instance a us) (instance b vs) h =
      let both = and_parts (bytes_eq a b) (same_uses us vs) h in
      ap (λ (n : List ℕ). instance n us) ((bytes_eq-Decides a b).0 both.0) ∙ ap (instance b) (sames_are us vs both.1)
  same_is (plain a) (value b) h = absurd cc
  same_is (plain a) (reference b) h = absurd cc
  same_is (plain a) (instance b vs) h = absurd cc
  same_is (value a) (plain b) h = absurd cc
  same_is (value a) (reference b) h = absurd cc
  same_is (value a) (instance b vs) h = absurd cc
  same_is (reference a) (plain b) h = absurd cc
  same_is (reference a) (value b) h = absurd cc
  same_is (reference a) (instance b vs) h = absurd cc
  same_is (instance a us) (plain b) h = absurd cc
  same_is (instance a us) (value b) h = absurd cc
  same_is (instance a us) (reference b) h = absurd cc

  sames_are : (us vs : UseTrees) → same_uses us vs ≡ true → us ≡ vs
  sames_are no_uses no_uses h = refl
  sames_are (use_and u us) (use_and v vs) h =
      let both = and_parts (same_use u v) (same_uses us vs) h in
      ap (λ (x : UseTree). use_and x us) (same_is u v both.0) ∙ ap (use_and v) (sames_are us vs both.1)
  sames_are no_uses (use_and v vs) h = absurd cc
  sames_are (use_and u us) no_uses h = absurd cc

mutual
  pub same_self : (u : UseTree) → same_use u u ≡ true
  same_self (plain a) = eq-eqb (base_number a) (base_number a) refl
  same_self (value a) = (bytes_eq-Decides a a).1 refl
  same_self (reference a) = (bytes_eq-Decides a a).1 refl
  same_self (instance a us) = let e : bytes_eq a a ≡ true = (bytes_eq-Decides a a).1 refl in rw (e, sames_self us) refl

  sames_self : (us : UseTrees) → same_uses us us ≡ true
  sames_self no_uses = refl
  sames_self (use_and u us) = rw (same_self u, sames_self us) refl

-- ---- a use stands among those that are used, once each, in the order of texts

other_way : (u x y : UseTree) → same_use u x ≡ false → same_use u y ≡ true → not (same_use x y) ≡ true
other_way u x y not_ yes_ =
    let is : u ≡ y = same_is u y yes_ in
    elim (either (same_use x y)) [
      | inl e ↦ (let same : x ≡ y = same_is x y e in absurd (let t : same_use u x ≡ true = ap (same_use u) (same ∙ sym is) ∙ same_self u in let c : true ≡ false = sym t ∙ not_ in cc))
      | inr e ↦ rw e refl
    ]

any_once : (u : UseTree) (xs : List UseTree) → list_any (same_use u) xs ≡ true → list_any (same_use u) (once xs) ≡ true
any_once u [] h = absurd cc
any_once u (x ∷ xs) h =
    elim (either (same_use u x)) [
      | inl e ↦ or_left (same_use u x) _ e
      | inr e ↦ or_right (same_use u x) _ (any_filter (same_use u) (λ y. not (same_use x y)) (once xs) (λ y k. other_way u x y e k) (any_once u xs (rw e at h)))
    ]

placed_any : (u x y : UseTree) (ys inserted : List UseTree) (o : Ordering) → (same_use u x || list_any (same_use u) ys ≡ true → list_any (same_use u) inserted ≡ true)
    → (same_use u x || (same_use u y || list_any (same_use u) ys)) ≡ true → list_any (same_use u) (placed_by_text o x y ys inserted) ≡ true
placed_any u x y ys inserted Less g h = h
placed_any u x y ys inserted Equal g h = h
placed_any u x y ys inserted Greater g h =
    elim (either (same_use u y)) [
      | inl k ↦ or_left (same_use u y) (list_any (same_use u) inserted) k
      | inr k ↦ (let r = rw k at h in or_right (same_use u y) (list_any (same_use u) inserted) (g r))
    ]

any_insert_text : (u x : UseTree) (ys : List UseTree) → (same_use u x || list_any (same_use u) ys) ≡ true → list_any (same_use u) (insert_by_text x ys) ≡ true
any_insert_text u x [] h = h
any_insert_text u x (y ∷ ys) h = placed_any u x y ys (insert_by_text x ys) (slice_cmp nat_cmp (text_of_tree x) (text_of_tree y)) (any_insert_text u x ys) h

any_by_text : (u : UseTree) (xs : List UseTree) → list_any (same_use u) xs ≡ true → list_any (same_use u) (by_text xs) ≡ true
any_by_text u [] h = absurd cc
any_by_text u (x ∷ xs) h =
    elim (either (same_use u x)) [
      | inl e ↦ any_insert_text u x (by_text xs) (or_left (same_use u x) (list_any (same_use u) (by_text xs)) e)
      | inr e ↦ any_insert_text u x (by_text xs) (or_right (same_use u x) (list_any (same_use u) (by_text xs)) (any_by_text u xs (rw e at h)))
    ]

pub spec_used : (lines : List Line) (u : UseTree) → list_any (same_use u) (used specs_in_cell lines) ≡ true → list_any (same_use u) (used_specs lines) ≡ true
spec_used lines u h = any_by_text u (once (used specs_in_cell lines)) (any_once u (used specs_in_cell lines) h)

-- the names in a use are among those in the rows of TypeSpec
pub spec_names : (specs : List UseTree) (u : UseTree) (p : List ℕ → Bool) → list_any (same_use u) specs ≡ true → list_any p (names_in_use u) ≡ true → list_any p (used names_in_cell (map spec_line specs)) ≡ true
spec_names [] u p h k = absurd cc
spec_names (x ∷ xs) u p h k =
    elim (either (same_use u x)) [
      | inl e ↦
          let is : u ≡ x = same_is u x e in
          let here : list_any p (names_in_use x) ≡ true = subst (λ (v : UseTree). list_any p (names_in_use v) ≡ true) is k in
          used_left p names_in_cell (spec_line x ∷ []) (map spec_line xs) (any_left p (names_in_use x ++ []) [] (any_left p (names_in_use x) [] here))
      | inr e ↦ used_right p names_in_cell (spec_line x ∷ []) (map spec_line xs) (spec_names xs u p (rw e at h) k)
    ]

-- ---- the row of a use

specs_behind : (before : Counts) (xs : List UseTree) → behind_all before (map spec_line xs) tables.TypeSpec ≡ before tables.TypeSpec + length xs
specs_behind before [] = omega arith
specs_behind before (x ∷ xs) = let rest = specs_behind (behind before (spec_line x)) xs in omega (arith, rest)

makers_aside : (before : Counts) (xs : List Maker) → behind_all before (map maker_line xs) tables.TypeSpec ≡ before tables.TypeSpec
makers_aside before [] = refl
makers_aside before (x ∷ xs) = makers_aside (behind before (maker_line x)) xs

refs_aside : (before : Counts) (xs : List (List ℕ)) → behind_all before (map ref_line xs) tables.TypeSpec ≡ before tables.TypeSpec
refs_aside before [] = refl
refs_aside before (x ∷ xs) = refs_aside (behind before (ref_line x)) xs

pub spec_read : (names : Names) (ds : List DeclTree) (offset : Offsets) (name : List ℕ) (arguments : UseTrees) (o : ℕ) → list_any (same_use (instance name arguments)) names.specs ≡ true → UseOk (tables_of names ds offset) names 16 (instance name arguments)
    → use_of_cell (tables_of names ds offset) o (type_value names (instance name arguments)) ≡ Ok (instance name arguments)
spec_read names ds offset name arguments o among ok =
    let u : UseTree = instance name arguments in
    let t : Tables = tables_of names ds offset in
    let f = found (same_use u) names.specs among in
    let same : u ≡ f.item = same_is u f.item f.is in
    let refs : List Line = map ref_line names.refs in
    let makers : List Line = map maker_line names.makers in
    let front : List Line = map spec_line f.front in
    let back : List Line = map spec_line f.back in
    let own : List Line = own_lines ds in
    let pre : List Line = refs ++ (makers ++ front) in
    let specs : map spec_line names.specs ≡ front ++ spec_line f.item ∷ back = ap (map spec_line) f.split ∙ map-append spec_line f.front (f.item ∷ f.back) in
    let split : all_lines names ds ≡ pre ++ spec_line f.item ∷ (back ++ own) =
    ap (λ (x : List Line). refs ++ ((makers ++ x) ++ own)) specs
    ∙ ap (λ (x : List Line). refs ++ x) (append_assoc makers (front ++ spec_line f.item ∷ back) own ∙ ap (λ (x : List Line). makers ++ x) (append_assoc front (spec_line f.item ∷ back) own) ∙ sym (append_assoc makers front (spec_line f.item ∷ (back ++ own))))
    ∙ sym (append_assoc refs (makers ++ front) (spec_line f.item ∷ (back ++ own))) in
    let number_is : behind_all none pre tables.TypeSpec ≡ place (same_use u) names.specs =
    ap (λ (c : Counts). c tables.TypeSpec) (behind_all-append none refs (makers ++ front) ∙ behind_all-append (behind_all none refs) makers front)
    ∙ (let a = specs_behind (behind_all (behind_all none refs) makers) f.front in let b = makers_aside (behind_all none refs) names.makers in let c = refs_aside none names.refs in let d = f.at in omega (arith, a, b, c, d)) in
    let row = row_is t names (all_lines names ds) pre (spec_line f.item) (back ++ own) tables.TypeSpec o (record { is = refl }) split refl in
    let ok_item : UseOk t names 16 f.item = subst (UseOk t names 16) same ok in
    let blob = spec_again t names (at t tables.TypeSpec (suc (behind_all none pre tables.TypeSpec)) 0) f.item ok_item in
    rw (sym number_is, row, blob) (ap Ok (sym same))

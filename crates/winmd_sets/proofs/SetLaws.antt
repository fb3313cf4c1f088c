-- The rows of a set state it.
use Rattle.std.proofs.Common.{◌≡◌, ℕ, suc, ◌+◌, Bool, true, false, ltb, leb, List, [], ◌∷◌, ◌++◌, take, get_or, map, Option, Some, Ok, refl, sym, ap, subst, ◌∙◌, append_assoc}
use Rattle.std.specs.Prelude.{◌||◌, bytes_eq}
use Rattle.std.specs.List.{flat_map, list_any, AllByRecursion}
use Rattle.std.proofs.lemmas.Bool.{le-leb, lt-ltb}
use Rattle.std.proofs.lemmas.List.{append-nil}
use Rattle.md_schema.specs.declared.table.Table.{Table}
use Rattle.md_schema.specs.declared.table.Table.TheVariants as tables
use Rattle.winmd_rows.specs.Faults.{each, somes}
use Rattle.winmd_rows.specs.Values.{Value, Offsets, stated_row}
use Rattle.winmd_lines.specs.Lines.{Line}
use Rattle.winmd_sets.specs.Declared.{first_lines, lines_of, own_line, body_lines}
use Rattle.winmd_lines.specs.Makers.{Maker}
use Rattle.winmd_lines.specs.Names.{Names, Counts, none, is_in, behind, value_of, written}
use Rattle.winmd_lines.specs.Positions.{behind_all, NoneIn, Carries, Apart, AllOwned}
use Rattle.winmd_lines.specs.Cells.{Row, Tables, numbered}
use Rattle.winmd_sets.specs.Classes.{names_in_order}
use Rattle.winmd_sets.specs.Types.{type_of, types_of, set_of, all_parts_of}
use Rattle.winmd_sets.specs.Rows.{ref_line, maker_line, spec_line, made_lines, all_lines}
use Rattle.winmd_lines.specs.Orders.{set_by}
use Rattle.wr_base.specs.Trees.{DeclTree, interface, class, name_of, UseTree, text_of_tree}
use Rattle.winmd_sets.specs.Fits.{SetFits}
use Rattle.winmd_sets.proofs.BeginLaws.{all_begun}
use Rattle.winmd_sets.proofs.AttributeLaws.{tables_of}
use Rattle.winmd_lines.proofs.LineLaws.{row_of, written-append, behind_all-append, behind-none}
use Rattle.winmd_sets.proofs.NameLaws.{OneEach, flat_map-append, before_types, types_split, first_behind, no_type_before}
use Rattle.winmd_sets.proofs.ShapeLaws.{interfaces_owned, defaults_apart, of_body, of_all, none_pieces, none_join, owned_join, owned_of_none, attributes_owned, constants_owned, constants_apart, overloads_apart, params_carried, semantics_apart, semantics_owned}
use Rattle.winmd_sets.proofs.TypeLaws.{Stands_, none_written}

all_front : {A : Type 0} (Q : A → Type 0) (xs ys : List A) → AllByRecursion Q (xs ++ ys) → AllByRecursion Q xs
all_front Q [] ys h = tt
all_front Q (x ∷ xs) ys h = (h.0, all_front Q xs ys h.1)

all_back : {A : Type 0} (Q : A → Type 0) (xs ys : List A) → AllByRecursion Q (xs ++ ys) → AllByRecursion Q ys
all_back Q [] ys h = h
all_back Q (x ∷ xs) ys h = all_back Q xs ys h.1

-- ---- lines of references

none_refs : (table : Table) → is_in table (ref_line []) ≡ false → (xs : List (List ℕ)) → NoneIn table (map ref_line xs)
none_refs table h [] = tt
none_refs table h (x ∷ xs) = (h, none_refs table h xs)

none_makers : (table : Table) → is_in table (maker_line Maker.Flags) ≡ false → (xs : List Maker) → NoneIn table (map maker_line xs)
none_makers table h [] = tt
none_makers table h (x ∷ xs) = (h, none_makers table h xs)

none_specs : (table : Table) → ((u : UseTree) → is_in table (spec_line u) ≡ false) → (xs : List UseTree) → NoneIn table (map spec_line xs)
none_specs table h [] = tt
none_specs table h (x ∷ xs) = (h x, none_specs table h xs)

none_all : (table : Table) (names : Names) (ds : List DeclTree) → is_in table (ref_line []) ≡ false → is_in table (maker_line Maker.Flags) ≡ false → ((u : UseTree) → is_in table (spec_line u) ≡ false) → NoneIn table first_lines
    → NoneIn table (flat_map lines_of ds) → NoneIn table (all_lines names ds)
none_all table names ds r m s f rest = none_join table (map ref_line names.refs) _ (none_refs table r names.refs)
    (none_join table (made_lines names.specs names.makers) _ (none_join table (map maker_line names.makers) (map spec_line names.specs) (none_makers table m names.makers) (none_specs table s names.specs)) (none_join table first_lines (flat_map lines_of ds) f rest))

owned_all : (keyed : Table) (column : ℕ) (names : Names) (ds : List DeclTree) → is_in keyed (ref_line []) ≡ false → is_in keyed (maker_line Maker.Flags) ≡ false → ((u : UseTree) → is_in keyed (spec_line u) ≡ false) → NoneIn keyed first_lines
    → AllOwned keyed column (flat_map lines_of ds) → AllOwned keyed column (all_lines names ds)
owned_all keyed column names ds r m s f rest = owned_join keyed column (map ref_line names.refs) _ (owned_of_none keyed column (map ref_line names.refs) (none_refs keyed r names.refs))
    (owned_join keyed column (made_lines names.specs names.makers) _ (owned_of_none keyed column (made_lines names.specs names.makers) (none_join keyed (map maker_line names.makers) (map spec_line names.specs) (none_makers keyed m names.makers) (none_specs keyed s names.specs)))
    (owned_join keyed column first_lines (flat_map lines_of ds) (owned_of_none keyed column first_lines f) rest))

-- ---- each declaration stands in the set

pub one_each : (ds : List DeclTree) → OneEach ds
one_each [] = tt
one_each (d ∷ ds) = (of_body (NoneIn tables.TypeDef) (none_pieces tables.TypeDef refl refl refl refl refl refl refl refl refl refl refl) d, one_each ds)

next_fields : (ds : List DeclTree) → Carries tables.TypeDef 4 tables.Field (flat_map lines_of ds)
next_fields [] = tt
next_fields (d ∷ ds) = refl

next_methods : (ds : List DeclTree) → Carries tables.TypeDef 5 tables.MethodDef (flat_map lines_of ds)
next_methods [] = tt
next_methods (d ∷ ds) = refl

next_attributes : (ds : List DeclTree) → Apart tables.CustomAttribute 0 tables.TypeDef (flat_map lines_of ds)
next_attributes [] = tt
next_attributes (d ∷ ds) = tt

next_interfaces : (ds : List DeclTree) → Apart tables.InterfaceImpl 0 tables.TypeDef (flat_map lines_of ds)
next_interfaces [] = tt
next_interfaces (d ∷ ds) = tt

pub stands : (names : Names) (front : List DeclTree) (d : DeclTree) (back : List DeclTree) → Stands_ names (front ++ d ∷ back) (before_types names ++ flat_map lines_of front) d (flat_map lines_of back)
stands names front d back =
    let ds : List DeclTree = front ++ d ∷ back in
    record {
      split = types_split names front d back;
      alone = of_body (NoneIn tables.TypeDef) (none_pieces tables.TypeDef refl refl refl refl refl refl refl refl refl refl refl) d;
      fields_next = next_fields back;
      methods_next = next_methods back;
      attributes_next = next_attributes back;
      attributes_owned = owned_all tables.CustomAttribute 0 names ds refl refl (λ u. refl) (refl, (refl, (refl, (refl, (refl, tt))))) (of_all (AllOwned tables.CustomAttribute 0) attributes_owned (λ flags name base. (tt, tt)) ds);
      constants_next = of_all (Apart tables.Constant 2 tables.Field) constants_apart (λ flags name base. (refl, tt)) back;
      constants_owned = owned_all tables.Constant 2 names ds refl refl (λ u. refl) (refl, (refl, (refl, (refl, (refl, tt))))) (of_all (AllOwned tables.Constant 2) constants_owned (λ flags name base. (tt, tt)) ds);
      overloads_next = of_all (Apart tables.CustomAttribute 0 tables.MethodDef) overloads_apart (λ flags name base. (refl, tt)) back;
      params_next = of_all (Carries tables.MethodDef 5 tables.Param) params_carried (λ flags name base. (refl, tt)) back;
      nested = none_all tables.NestedClass names ds refl refl (λ u. refl) (refl, (refl, (refl, (refl, (refl, tt))))) (of_all (NoneIn tables.NestedClass) (none_pieces tables.NestedClass refl refl refl refl refl refl refl refl refl refl refl) (λ flags name base. (refl, tt)) ds);
      interfaces_owned_ = owned_all tables.InterfaceImpl 0 names ds refl refl (λ u. refl) (refl, (refl, (refl, (refl, (refl, tt))))) (of_all (AllOwned tables.InterfaceImpl 0) interfaces_owned (λ flags name base. (tt, tt)) ds);
      interfaces_next = next_interfaces back;
      defaults_next = of_all (Apart tables.CustomAttribute 0 tables.InterfaceImpl) defaults_apart (λ flags name base. (refl, tt)) back;
      semantics_next = of_all (Apart tables.MethodSemantics 1 tables.MethodDef) semantics_apart (λ flags name base. (refl, tt)) back;
      semantics_owned = owned_all tables.MethodSemantics 1 names ds refl refl (λ u. refl) (refl, (refl, (refl, (refl, (refl, tt))))) (of_all (AllOwned tables.MethodSemantics 1) semantics_owned (λ flags name base. (tt, tt)) ds);
    }

-- ---- reading one type after the other

-- as a reader puts it: interfaces, factories and statics in the order of their texts, each once
abbrev pub settled : DeclTree → DeclTree
settled (interface name version id owner requires_ members) = interface name version id owner (set_by text_of_tree requires_) members
settled (class name version fixed default has direct factories statics) = class name version fixed default (set_by text_of_tree has) direct (names_in_order factories) (names_in_order statics)
settled d = d

-- a declaration is read wherever it stands in the set
abbrev pub IsRead : Names → List DeclTree → Offsets → DeclTree → Type 0
IsRead names ds offset d = (pre post : List Line) → Stands_ names ds pre d post
    → type_of (tables_of names ds offset) (suc (behind_all none pre tables.TypeDef), row_of names (behind_all none pre) (own_line d)) ≡ Ok (Some (suc (behind_all none pre tables.TypeDef), settled d))

abbrev found_from : ℕ → List DeclTree → List (ℕ × DeclTree)
found_from n [] = []
found_from n (d ∷ ds) = (n, d) ∷ found_from (suc n) ds

abbrev some_from : ℕ → List DeclTree → List (Option (ℕ × DeclTree))
some_from n [] = []
some_from n (d ∷ ds) = Some (n, settled d) ∷ some_from (suc n) ds

somes_from : (n : ℕ) (ds : List DeclTree) → somes (some_from n ds) ≡ found_from n (map settled ds)
somes_from n [] = refl
somes_from n (d ∷ ds) = ap (λ (x : List (ℕ × DeclTree)). (n, settled d) ∷ x) (somes_from (suc n) ds)

-- behind a declaration's own row its lines write none of TypeDef
rest_rows : (names : Names) (before : Counts) (d : DeclTree) (rest : List Line) → NoneIn tables.TypeDef (body_lines d)
    → written names (behind before (own_line d)) (body_lines d ++ rest) tables.TypeDef ≡ written names (behind_all before (lines_of d)) rest tables.TypeDef
rest_rows names before d rest h =
    let after : Counts = behind before (own_line d) in
    written-append names after (body_lines d) rest tables.TypeDef ∙ rw (none_written names after (body_lines d) tables.TypeDef h) refl

one_number : (before : Counts) (d : DeclTree) → NoneIn tables.TypeDef (body_lines d) → behind_all before (lines_of d) tables.TypeDef ≡ suc (before tables.TypeDef)
one_number before d h = behind-none (behind before (own_line d)) (body_lines d) tables.TypeDef h

types_read : (names : Names) (all front back : List DeclTree) (offset : Offsets) → all ≡ front ++ back → AllByRecursion (IsRead names all offset) back
    → each (type_of (tables_of names all offset))
    (numbered (suc (behind_all none (before_types names ++ flat_map lines_of front) tables.TypeDef)) (map stated_row (written names (behind_all none (before_types names ++ flat_map lines_of front)) (flat_map lines_of back) tables.TypeDef)))
    ≡ Ok (some_from (suc (behind_all none (before_types names ++ flat_map lines_of front) tables.TypeDef)) back)
types_read names all front [] offset e reads = refl
types_read names all front (d ∷ back) offset e reads =
    let t : Tables = tables_of names all offset in
    let pre : List Line = before_types names ++ flat_map lines_of front in
    let before : Counts = behind_all none pre in
    let st : Stands_ names all pre d (flat_map lines_of back) = subst (λ (x : List DeclTree). Stands_ names x pre d (flat_map lines_of back)) (sym e) (stands names front d back) in
    let this = reads.0 pre (flat_map lines_of back) st in
    let split : all ≡ (front ++ d ∷ []) ++ back = e ∙ sym (append_assoc front (d ∷ []) back) in
    let later0 = types_read names all (front ++ d ∷ []) back offset split reads.1 in
    let lines_then : before_types names ++ flat_map lines_of (front ++ d ∷ []) ≡ pre ++ lines_of d =
    ap (λ (x : List Line). before_types names ++ x) (flat_map-append front (d ∷ []) ∙ ap (λ (x : List Line). flat_map lines_of front ++ x) (append-nil (lines_of d))) ∙ sym (append_assoc (before_types names) (flat_map lines_of front) (lines_of d)) in
    let counts : behind_all none (before_types names ++ flat_map lines_of (front ++ d ∷ [])) ≡ behind_all before (lines_of d) = ap (behind_all none) lines_then ∙ behind_all-append none pre (lines_of d) in
    let later1 : each (type_of t) (numbered (suc (behind_all before (lines_of d) tables.TypeDef)) (map stated_row (written names (behind_all before (lines_of d)) (flat_map lines_of back) tables.TypeDef))) ≡ Ok (some_from (suc (behind_all before (lines_of d) tables.TypeDef)) back) =
    subst (λ (b : Counts). each (type_of t) (numbered (suc (b tables.TypeDef)) (map stated_row (written names b (flat_map lines_of back) tables.TypeDef))) ≡ Ok (some_from (suc (b tables.TypeDef)) back)) counts later0 in
    let number_is = one_number before d st.alone in
    let rows : List Row = map stated_row (written names (behind_all before (lines_of d)) (flat_map lines_of back) tables.TypeDef) in
    let later : each (type_of t) (numbered (suc (suc (before tables.TypeDef))) rows) ≡ Ok (some_from (suc (suc (before tables.TypeDef))) back) =
    subst (λ (k : ℕ). each (type_of t) (numbered (suc k) rows) ≡ Ok (some_from (suc k) back)) number_is later1 in
    let row = rest_rows names before d (flat_map lines_of back) st.alone in
    rw (row, this, later) refl

-- ---- the set

any_from : (p : DeclTree → Bool) (n : ℕ) (ds : List DeclTree) → list_any (λ (e : ℕ × DeclTree). p e.1) (found_from n ds) ≡ list_any p ds
any_from p n [] = refl
any_from p n (d ∷ ds) = ap (λ (b : Bool). p d || b) (any_from p (suc n) ds)

set_again : (t : Tables) (types parts n : ℕ) (ds : List DeclTree) → SetFits types parts ds → set_of t types parts (found_from n ds) ≡ Ok ds
set_again t types parts n [] h = refl
set_again t types parts n (d ∷ ds) h =
    let few : ltb types 20000 ≡ true = lt-ltb _ _ h.0 in
    let small : leb (parts + all_parts_of d) 500000 ≡ true = le-leb _ _ h.1 in
    let once = any_from (λ e. bytes_eq (name_of d) (name_of e)) (suc n) ds ∙ h.2 in
    let rest = set_again t (suc types) (parts + all_parts_of d) (suc n) ds h.3 in
    rw (few, small, once, rest) refl

-- The rows of a set, whose names are known, state the set.
pub set_read : (names : Names) (ds : List DeclTree) (offset : Offsets) → AllByRecursion (IsRead names ds offset) ds → SetFits 0 0 (map settled ds) → types_of (tables_of names ds offset) ≡ Ok (set_by name_of (map settled ds))
set_read names ds offset reads ok =
    let t : Tables = tables_of names ds offset in
    let base : List Line = before_types names in
    let before : Counts = behind_all none base in
    let refs : List Line = map ref_line names.refs in
    let made : List Line = made_lines names.specs names.makers in
    let generic : t.rows tables.GenericParam ≡ [] = ap (map stated_row) (none_written names none (all_lines names ds) tables.GenericParam
    (none_all tables.GenericParam names ds refl refl (λ u. refl) (refl, (refl, (refl, (refl, (refl, tt))))) (of_all (NoneIn tables.GenericParam) (none_pieces tables.GenericParam refl refl refl refl refl refl refl refl refl refl refl) (λ flags name base. (refl, tt)) ds))) in
    let split : all_lines names ds ≡ (refs ++ made) ++ (first_lines ++ flat_map lines_of ds) = sym (append_assoc refs made (first_lines ++ flat_map lines_of ds)) in
    let at_first : behind_all none (refs ++ made) tables.TypeDef ≡ 0 = behind-none none (refs ++ made) tables.TypeDef (no_type_before names) in
    let b1 : Counts = behind_all none (refs ++ made) in
    let whole : base ≡ (refs ++ made) ++ first_lines = sym (append_assoc refs made first_lines) in
    let counts : behind_all b1 first_lines ≡ before = sym (ap (behind_all none) whole ∙ behind_all-append none (refs ++ made) first_lines) in
    let rows : written names none (all_lines names ds) tables.TypeDef ≡ map (value_of names (behind_all b1 (take 4 first_lines))) (get_or first_lines 4 (ref_line [])).cells ∷ written names before (flat_map lines_of ds) tables.TypeDef =
    ap (λ (ls : List Line). written names none ls tables.TypeDef) split ∙ written-append names none (refs ++ made) (first_lines ++ flat_map lines_of ds) tables.TypeDef
    ∙ ap (λ (x : List (List Value)). x ++ written names b1 (first_lines ++ flat_map lines_of ds) tables.TypeDef) (none_written names none (refs ++ made) tables.TypeDef (no_type_before names))
    ∙ ap (λ (c : Counts). map (value_of names (behind_all b1 (take 4 first_lines))) (get_or first_lines 4 (ref_line [])).cells ∷ written names c (flat_map lines_of ds) tables.TypeDef) counts in
    let one : before tables.TypeDef ≡ 1 = first_behind names in
    let nil : base ++ flat_map lines_of [] ≡ base = append-nil base in
    let types0 = types_read names ds [] ds offset refl reads in
    let types1 : each (type_of t) (numbered (suc (before tables.TypeDef)) (map stated_row (written names before (flat_map lines_of ds) tables.TypeDef))) ≡ Ok (some_from (suc (before tables.TypeDef)) ds) =
    subst (λ (ls : List Line). each (type_of t) (numbered (suc (behind_all none ls tables.TypeDef)) (map stated_row (written names (behind_all none ls) (flat_map lines_of ds) tables.TypeDef))) ≡ Ok (some_from (suc (behind_all none ls tables.TypeDef)) ds)) nil types0 in
    let types : each (type_of t) (numbered 2 (map stated_row (written names before (flat_map lines_of ds) tables.TypeDef))) ≡ Ok (some_from 2 ds) =
    subst (λ (k : ℕ). each (type_of t) (numbered (suc k) (map stated_row (written names before (flat_map lines_of ds) tables.TypeDef))) ≡ Ok (some_from (suc k) ds)) one types1 in
    let lists = all_begun names ds offset in
    rw (lists.1, generic, rows, types, somes_from 2 ds, set_again t 0 0 2 (map settled ds) ok) refl

-- Lines that fit give rows that fit.
use Rattle.std.proofs.Common.{◌≡◌, ℕ, ◌+◌, ◌*◌, ◌^◌, Bool, true, false, cond, leb, List, [], ◌∷◌, map, Option, Some, None, refl, sym, subst, inl, inr}
use Rattle.std.specs.Prelude.{◌&&◌, is_some, option_map, position}
use Rattle.std.specs.List.{AllByRecursion, list_all}
use Rattle.std.proofs.lemmas.Bool.{and_parts}
use Rattle.md_schema.specs.declared.table.Table.{Table}
use Rattle.md_schema.specs.declared.table.Table.TheVariants as tables
use Rattle.md_schema.specs.declared.column.Column.{Column}
use Rattle.md_schema.specs.declared.column.Column.TheVariants.{One, Two, Four, Texts, Guids, Blobs, Index, Coded}
use Rattle.md_schema.specs.declared.column.CodedIndex.{CodedIndex}
use Rattle.md_schema.specs.Codes.{is_table}
use Rattle.md_schema.specs.Schema.{choices_of, bits_of, columns_of}
use Rattle.winmd_rows.specs.Values.{Value}
use Rattle.winmd_rows.specs.Values as values
use Rattle.winmd_lines.specs.Lines.{Drawn, Number, Words, Bytes, Guid, To, Last, Next, Type_, MadeBy, OfField, OfProperty, OfMethod, OfSpec, Line}
use Rattle.winmd_lines.specs.Names.{Names, Counts, is_in, behind, value_of, written, type_value, is_declared}
use Rattle.winmd_lines.specs.Orders.{insert_by, sort_by}
use Rattle.winmd_sets.specs.Rows.{in_order}
use Rattle.wr_base.specs.Trees.{UseTree, plain, value, reference, instance}
use Rattle.winmd_lines.proofs.LineLaws.{either, same_place}
use Rattle.winmd_rows.specs.Indices.{names_table}
use Rattle.winmd_sets.specs.LineShapes.{drawn_fits, cells_fit, line_fits}
use Rattle.winmd_strict.specs.Shapes.{value_fits, values_fit}

some_row : (bits n : ℕ) (p : Option ℕ) → is_some (option_map (λ tag. 0 * 2 ^ bits + tag) p) ≡ true → is_some (option_map (λ tag. n * 2 ^ bits + tag) p) ≡ true
some_row bits n None h = h
some_row bits n (Some tag) h = refl

any_row : (c : CodedIndex) (table : Table) (n : ℕ) → names_table c table ≡ true → value_fits (Coded c) (values.To table n) ≡ true
any_row c table n h = some_row (bits_of c) n (position (is_table table) (choices_of c)) h

either_row : (c : CodedIndex) (b : Bool) (n m : ℕ) → names_table c tables.TypeDef ≡ true → names_table c tables.TypeRef ≡ true → value_fits (Coded c) (cond b (values.To tables.TypeDef n) (values.To tables.TypeRef m)) ≡ true
either_row c true n m h k = any_row c tables.TypeDef n h
either_row c false n m h k = any_row c tables.TypeRef m k

type_fits : (names : Names) (c : CodedIndex) (u : UseTree) → names_table c tables.TypeDef ≡ true → names_table c tables.TypeRef ≡ true → names_table c tables.TypeSpec ≡ true → value_fits (Coded c) (type_value names u) ≡ true
type_fits names c (plain base) d r s = any_row c tables.TypeDef 0 d
type_fits names c (value name) d r s = either_row c (is_declared names.types name) _ _ d r
type_fits names c (reference name) d r s = either_row c (is_declared names.types name) _ _ d r
type_fits names c (instance name arguments) d r s = any_row c tables.TypeSpec _ s

value_is : (names : Names) (before : Counts) (column : Column) (cell : Drawn) → drawn_fits column cell ≡ true → value_fits column (value_of names before cell) ≡ true
value_is names before One (Number n) h = refl
value_is names before Two (Number n) h = refl
value_is names before Four (Number n) h = refl
value_is names before Texts (Words text) h = refl
value_is names before Guids (Guid n) h = refl
value_is names before Blobs (Bytes bytes) h = refl
value_is names before Blobs (OfField u) h = refl
value_is names before Blobs (OfProperty u) h = refl
value_is names before Blobs (OfMethod sig) h = refl
value_is names before Blobs (OfSpec u) h = refl
value_is names before (Index table) (To other n) h = h
value_is names before (Index table) (Last other) h = h
value_is names before (Index table) (Next other) h = h
value_is names before (Coded c) (To other n) h = any_row c other n h
value_is names before (Coded c) (Last other) h = any_row c other _ h
value_is names before (Coded c) (Next other) h = any_row c other _ h
value_is names before (Coded c) (Type_ u) h =
    let one = and_parts (names_table c tables.TypeDef) (names_table c tables.TypeRef && names_table c tables.TypeSpec) h in
    let two = and_parts (names_table c tables.TypeRef) (names_table c tables.TypeSpec) one.1 in
    type_fits names c u one.0 two.0 two.1
value_is names before (Coded c) (MadeBy maker) h = any_row c tables.MemberRef _ h
value_is names before _ _ h = absurd cc

row_is : (names : Names) (before : Counts) (columns : List Column) (cells : List Drawn) → cells_fit columns cells ≡ true → values_fit columns (map (value_of names before) cells) ≡ true
row_is names before [] [] h = refl
row_is names before [] (c ∷ cs) h = absurd cc
row_is names before (c ∷ cs) [] h = absurd cc
row_is names before (column ∷ columns) (cell ∷ cells) h =
    let both = and_parts (drawn_fits column cell) (cells_fit columns cells) h in rw (value_is names before column cell both.0, row_is names before columns cells both.1) refl

abbrev pub RowsAre : Table → List (List Value) → Type 0
RowsAre t rows = AllByRecursion (λ row. values_fit (columns_of t) row ≡ true) rows

pub written_fit : (names : Names) (before : Counts) (lines : List Line) → list_all line_fits lines ≡ true → (t : Table) → RowsAre t (written names before lines t)
written_fit names before [] h t = tt
written_fit names before (l ∷ ls) h t =
    let both = and_parts (line_fits l) (list_all line_fits ls) h in
    let rest = written_fit names (behind before l) ls both.1 t in
    elim (either (is_in t l)) [
      | inl e ↦ rw e (subst (λ (u : Table). values_fit (columns_of u) (map (value_of names before) l.cells) ≡ true) (sym (same_place t l.table e)) (row_is names before (columns_of l.table) l.cells both.0), rest)
      | inr e ↦ rw e rest
    ]

-- sorting keeps what holds of each row
inserted : {A : Type 0} (P : A → Type 0) (key : A → ℕ) (x : A) (ys : List A) → P x → AllByRecursion P ys → AllByRecursion P (insert_by key x ys)
inserted P key x [] p h = (p, tt)
inserted P key x (y ∷ ys) p h =
    elim (either (leb (key x) (key y))) [
      | inl e ↦ rw e (p, h)
      | inr e ↦ rw e (h.0, inserted P key x ys p h.1)
    ]

sorted : {A : Type 0} (P : A → Type 0) (key : A → ℕ) (xs : List A) → AllByRecursion P xs → AllByRecursion P (sort_by key xs)
sorted P key [] h = tt
sorted P key (x ∷ xs) h = inserted P key x (sort_by key xs) h.0 (sorted P key xs h.1)

pub in_order_all : (P : List Value → Type 0) (t : Table) (rows : List (List Value)) → AllByRecursion P rows → AllByRecursion P (in_order t rows)
in_order_all P tables.CustomAttribute rows h = sorted P _ rows h
in_order_all P tables.MethodSemantics rows h = sorted P _ rows h
in_order_all P _ rows h = h

-- Rows by placement, with their indices followed, are the rows that were written.
use Rattle.std.proofs.Common.{◌≡◌, ℕ, suc, ◌-◌, ◌^◌, ◌≤◌, true, List, [], ◌∷◌, ◌++◌, length, map, get_or, Option, Some, None, Ok, refl, sym, ap, ◌∙◌, lit≤}
use Rattle.std.specs.Prelude.{is_some, unwrap_or, ◌==◌, IfSome}
use Rattle.std.specs.List.{AllByRecursion}
use Rattle.std.proofs.lemmas.Bool.{and_parts, eqb-true}
use Rattle.md_schema.specs.declared.table.Table.{Table}
use Rattle.md_schema.specs.declared.table.Table.TheVariants as tables
use Rattle.md_schema.specs.declared.column.Column.{Column}
use Rattle.md_schema.specs.declared.column.Column.TheVariants.{One, Two, Four, Texts, Guids, Blobs, Index, Coded}
use Rattle.md_schema.specs.declared.column.CodedIndex.{CodedIndex}
use Rattle.md_schema.specs.declared.column.CodedIndex.TheVariants as coded
use Rattle.md_schema.specs.Schema.{all_tables, place_of, columns_of, choices_of, bits_of}
use Rattle.md_schema.specs.Codes.{code_of, target_of}
use Rattle.md_schema.proofs.CodesLemmas.{encoded}
use Rattle.md_schema.proofs.TablesLemmas.{place_is}
use Rattle.md_bytes.specs.Padding.{zeros, up}
use Rattle.winmd_rows.specs.Values.{Value, Number, Text, Blob, Guid, To, choice, follow, followed, followed_row, followed_rows, stated, stated_row}
use Rattle.md_heaps.proofs.HeapLaws.{stands_grows}
use Rattle.winmd_strict.specs.Placed.{Heaped, HoldsCell, Holds, heaps_in, number_in_cell, numbers_in_row, numbers_of}
use Rattle.winmd_strict.specs.Shapes.{value_fits, values_fit}
use Rattle.md_heaps.specs.Blobs.{blob_bytes}
use Rattle.winmd_strict.proofs.HeapReads.{text_more}
use Rattle.md_heaps.proofs.ReadLaws.{blob_here_reads}

pub choices_low : (c : CodedIndex) → length (choices_of c) ≤ 2 ^ bits_of c
choices_low coded.TypeDefOrRef = lit≤ tt
choices_low coded.HasConstant = lit≤ tt
choices_low coded.HasCustomAttribute = lit≤ tt
choices_low coded.HasFieldMarshal = lit≤ tt
choices_low coded.HasDeclSecurity = lit≤ tt
choices_low coded.MemberRefParent = lit≤ tt
choices_low coded.HasSemantics = lit≤ tt
choices_low coded.MethodDefOrRef = lit≤ tt
choices_low coded.MemberForwarded = lit≤ tt
choices_low coded.Implementation = lit≤ tt
choices_low coded.CustomAttributeType = lit≤ tt
choices_low coded.ResolutionScope = lit≤ tt
choices_low coded.TypeOrMethodDef = lit≤ tt

pub same_place : (t u : Table) → (place_of t == place_of u) ≡ true → t ≡ u
same_place t u h = sym (place_is t) ∙ ap (λ (n : ℕ). get_or all_tables n tables.Module) (eqb-true (place_of t) (place_of u) h) ∙ place_is u

code_follows : (c : CodedIndex) (other : Table) (row : ℕ) (o : Option ℕ) → is_some o ≡ true → IfSome o (λ raw. target_of (bits_of c) (choices_of c) raw ≡ Some (other, row))
    → choice (target_of (bits_of c) (choices_of c) (unwrap_or o 0)) ≡ Ok (To other row)
code_follows c other row None h e = absurd cc
code_follows c other row (Some raw) h e = ap choice e

pub cell_follows : (heaps : Heaped) (column : Column) (value : Value) → value_fits column value ≡ true → HoldsCell heaps value → follow (heaps_in heaps) column (number_in_cell heaps column value) ≡ Ok value
cell_follows heaps One (Number n) h k = refl
cell_follows heaps Two (Number n) h k = refl
cell_follows heaps Four (Number n) h k = refl
cell_follows heaps Texts (Text text) h k =
    let read = text_more heaps.texts.bytes (zeros (up (length heaps.texts.bytes) 4 - length heaps.texts.bytes)) (heaps.texts.index text) text k in rw read refl
cell_follows heaps Guids (Guid n) h k = refl
cell_follows heaps Blobs (Blob blob) h k =
    let more : List ℕ = zeros (up (length heaps.blobs.bytes) 4 - length heaps.blobs.bytes) in
    let read = blob_here_reads (heaps.blobs.bytes ++ more) (heaps.blobs.index blob) blob k.small (stands_grows heaps.blobs.bytes more (blob_bytes blob) (heaps.blobs.index blob) k.stands) in rw read refl
cell_follows heaps (Index table) (To other row) h k = ap (λ (t : Table). Ok (To t row)) (same_place table other h)
cell_follows heaps (Coded c) (To other row) h k = code_follows c other row (code_of (bits_of c) (choices_of c) other row) h (encoded (bits_of c) (choices_of c) other row (choices_low c))
cell_follows heaps _ _ h k = absurd cc

row_follows : (heaps : Heaped) (o : ℕ → ℕ) (c : ℕ) (columns : List Column) (values : List Value) → values_fit columns values ≡ true → AllByRecursion (HoldsCell heaps) values
    → followed_row (heaps_in heaps) o c columns (numbers_in_row heaps columns values) ≡ stated_row values
row_follows heaps o c [] [] h k = refl
row_follows heaps o c [] (v ∷ vs) h k = absurd cc
row_follows heaps o c (column ∷ columns) [] h k = absurd cc
row_follows heaps o c (column ∷ columns) (v ∷ vs) h k =
    let both = and_parts (value_fits column v) (values_fit columns vs) h in
    let first = cell_follows heaps column v both.0 k.0 in
    let rest = row_follows heaps o (suc c) columns vs both.1 k.1 in
    rw (first, rest) refl

rows_follow : (heaps : Heaped) (o : ℕ → ℕ → ℕ) (r : ℕ) (columns : List Column) (rows : List (List Value)) → AllByRecursion (λ row. values_fit columns row ≡ true) rows → AllByRecursion (AllByRecursion (HoldsCell heaps)) rows
    → followed_rows (heaps_in heaps) o r columns (map (numbers_in_row heaps columns) rows) ≡ map stated_row rows
rows_follow heaps o r columns [] h k = refl
rows_follow heaps o r columns (row ∷ rows) h k = rw (row_follows heaps (o r) 0 columns row h.0 k.0, rows_follow heaps o (suc r) columns rows h.1 k.1) refl

-- each row has a value for each column, of the column's kind
abbrev pub RowsFit : (Table → List (List Value)) → Type 0
RowsFit rows = (table : Table) → AllByRecursion (λ row. values_fit (columns_of table) row ≡ true) (rows table)

pub all_follow : (heaps : Heaped) (o : Table → ℕ → ℕ → ℕ) (rows : Table → List (List Value)) → RowsFit rows → Holds heaps rows → (table : Table) → followed (heaps_in heaps) o (numbers_of heaps rows) table ≡ stated rows table
all_follow heaps o rows fits holds table = rows_follow heaps (o table) 0 (columns_of table) (rows table) (fits table) (holds.cells table)

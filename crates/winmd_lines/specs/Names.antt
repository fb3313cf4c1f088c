-- Where types and constructors stand: the types that are declared, and what the rows use besides, each once.
use Rattle.std.specs.Prelude.{ℕ, suc, ◌==◌, ◌&&◌, ◌||◌, not, Bool, List, [], ◌∷◌, map, codes, if◌then◌else◌}
use Rattle.std.specs.Str.{bytes_eq}
use Rattle.std.specs.List.{flat_map, list_any}
use Rattle.md_schema.specs.declared.table.Table.{Table}
use Rattle.md_schema.specs.declared.table.Table.TheVariants as tables
use Rattle.md_schema.specs.declared.column.CodedIndex.TheVariants as coded
use Rattle.md_schema.specs.declared.column.Column.TheVariants.{Coded}
use Rattle.md_schema.specs.Schema.{place_of}
use Rattle.winmd_rows.specs.Indices.{index_of}
use Rattle.wr_base.specs.Parts.{before_last}
use Rattle.winmd_rows.specs.Values as values
use Rattle.winmd_rows.specs.Values.{Value}
use Rattle.winmd_lines.specs.Lines.{Drawn, Number, Words, Bytes, Guid, To, Last, Next, Type_, MadeBy, OfField, OfProperty, OfMethod, OfSpec, Line}
use Rattle.winmd_lines.specs.Makers.{Maker, maker_number}
use Rattle.wr_base.specs.Trees.{UseTree, plain, value, reference, instance, same_use}
use Rattle.sig_blobs.specs.Writing.{Numbers, field_bytes, property_bytes, method_bytes, use_bytes}
use Rattle.winmd_lines.specs.UsedNames.{names_in_use, names_in_signature}

-- The full names of TypeDefs from row 2 on, and of TypeRefs; the uses that TypeSpecs spell; the constructors that MemberRefs name.
pub record Names : Type 0 where
  pub types : List (List ℕ)
  pub refs : List (List ℕ)
  pub specs : List UseTree
  pub makers : List Maker

-- how many items stand before the first that passes
abbrev pub place : {A : Type 0} → (A → Bool) → List A → ℕ
place passes [] = 0
place passes (x ∷ xs) = if passes x then 0 else suc (place passes xs)

-- ---- a type by name

-- names of these namespaces are always those of TypeRefs
abbrev pub is_outside : List ℕ → Bool
is_outside full = bytes_eq (before_last 46 full) (codes "System") || bytes_eq (before_last 46 full) (codes "Windows.Foundation.Metadata")

abbrev pub is_declared : List (List ℕ) → List ℕ → Bool
is_declared types full = not (is_outside full) && list_any (bytes_eq full) types

abbrev pub named_row : Names → List ℕ → Value
named_row names full =
    if is_declared names.types full then values.To tables.TypeDef (suc (suc (place (bytes_eq full) names.types))) else values.To tables.TypeRef (suc (place (bytes_eq full) names.refs))

-- an instance is a TypeSpec
abbrev pub type_value : Names → UseTree → Value
type_value names (plain base) = values.To tables.TypeDef 0
type_value names (value name) = named_row names name
type_value names (reference name) = named_row names name
type_value names (instance name arguments) = values.To tables.TypeSpec (suc (place (same_use (instance name arguments)) names.specs))

-- its TypeDefOrRef (II.24.2.6)
abbrev pub code_of_value : Value → ℕ
code_of_value (values.To table row) = index_of (Coded coded.TypeDefOrRef) table row
code_of_value _ = 0

abbrev pub token_of : Names → Numbers
token_of names full = code_of_value (named_row names full)

-- ---- a cell, where so many rows stand before it

abbrev pub is_maker : Maker → Maker → Bool
is_maker maker other = maker_number maker == maker_number other

-- how many rows stand in each table
abbrev pub Counts : Type 0
Counts = Table → ℕ

abbrev pub value_of : Names → Counts → Drawn → Value
value_of names before (Number n) = values.Number n
value_of names before (Words text) = values.Text text
value_of names before (Bytes bytes) = values.Blob bytes
value_of names before (Guid n) = values.Guid n
value_of names before (To table row) = values.To table row
value_of names before (Last table) = values.To table (before table)
value_of names before (Next table) = values.To table (suc (before table))
value_of names before (Type_ use_) = type_value names use_
value_of names before (MadeBy maker) = values.To tables.MemberRef (suc (place (is_maker maker) names.makers))
value_of names before (OfField type_) = values.Blob (field_bytes (token_of names) type_)
value_of names before (OfProperty type_) = values.Blob (property_bytes (token_of names) type_)
value_of names before (OfMethod sig) = values.Blob (method_bytes (token_of names) sig)
value_of names before (OfSpec use_) = values.Blob (use_bytes (token_of names) use_)

-- ---- lines as rows

abbrev pub none : Counts
none table = 0

abbrev pub is_in : Table → Line → Bool
is_in table l = place_of table == place_of l.table

-- how many rows stand in each table behind a line
abbrev pub behind : Counts → Line → Counts
behind before l table = if is_in table l then suc (before table) else before table

-- the rows of a table, where so many rows of each stand before them
abbrev pub written : Names → Counts → List Line → Table → List (List Value)
written names before [] table = []
written names before (l ∷ ls) table =
    if is_in table l then map (value_of names before) l.cells ∷ written names (behind before l) ls table else written names (behind before l) ls table

-- ---- what rows use

-- an instance is named by its TypeSpec
abbrev pub names_at_top : UseTree → List (List ℕ)
names_at_top (value name) = name ∷ []
names_at_top (reference name) = name ∷ []
names_at_top _ = []

abbrev pub names_in_cell : Drawn → List (List ℕ)
names_in_cell (Type_ use_) = names_at_top use_
names_in_cell (OfField type_) = names_in_use type_
names_in_cell (OfProperty type_) = names_in_use type_
names_in_cell (OfMethod sig) = names_in_signature sig
names_in_cell (OfSpec use_) = names_in_use use_
names_in_cell _ = []

abbrev pub specs_in_cell : Drawn → List UseTree
specs_in_cell (Type_ (instance name arguments)) = instance name arguments ∷ []
specs_in_cell _ = []

abbrev pub makers_in_cell : Drawn → List Maker
makers_in_cell (MadeBy maker) = maker ∷ []
makers_in_cell _ = []

-- what the cells of lines use
abbrev pub used : {A : Type 0} → (Drawn → List A) → List Line → List A
used in_cell lines = flat_map (λ l. flat_map in_cell l.cells) lines

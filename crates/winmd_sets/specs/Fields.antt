-- Enums and structs, from their fields and constants (ECMA-335 II.22.15, II.22.9).
use Rattle.std.specs.Prelude.{ℕ, ◌==◌, ◌&&◌, bytes_eq, codes, Bool, true, false, List, [], ◌∷◌, length, Result, Ok, if◌then◌else◌}
use Rattle.md_schema.specs.declared.table.Table.TheVariants as tables
use Rattle.md_schema.specs.declared.faults.ImageKind.TheVariants.{BadShape}
use Rattle.md_bytes.specs.Bytes.{number}
use Rattle.wr_base.specs.declared.type_use.Base.TheVariants as bases
use Rattle.wr_base.specs.declared.declaration.Case.{Case}
use Rattle.winmd_rows.specs.Faults.{Fault, fault, ◌>>=◌, each, the_one, checked}
use Rattle.winmd_rows.specs.Bits.{int_of_bits}
use Rattle.winmd_sets.specs.Blobs.{field_of}
use Rattle.winmd_lines.specs.Cells.{Numbered, Tables, at, number_in, bytes_in, has_flag, rows_of_owner, list_of, name_in}
use Rattle.wr_base.specs.Trees.{UseTree, plain, FieldTree, DeclTree, enum, struct}
use Rattle.winmd_sets.specs.Attributes.{Attribute, version_of}
use Rattle.winmd_sets.specs.Members.{element}

-- ---- enums and structs

-- I4, or U4 in an enum of flags; no other type
abbrev pub flags_of : ℕ → UseTree → Result Bool Fault
flags_of offset (plain bases.I32) = Ok false
flags_of offset (plain bases.U32) = Ok true
flags_of offset _ = fault BadShape offset

abbrev pub field_type : Tables → Numbered → Result UseTree Fault
field_type t field = bytes_in field.1 2 >>= λ blob. field_of t (at t tables.Field field.0 2) blob

-- the constant of a field, of this type, in four bytes
abbrev pub constant_of : Tables → Bool → ℕ → Result ℕ Fault
constant_of t flags field = do
  row ← the_one BadShape (at t tables.Field field 0) (rows_of_owner t tables.Constant 2 tables.Field field)
  kind ← number_in row.1 0
  blob ← bytes_in row.1 3
  if kind == element flags && length blob == 4 then Ok (number blob) else fault BadShape (at t tables.Constant row.0 3)

-- fields with flag 0x40 are cases, the others aren't
abbrev pub is_case : Numbered → Result Bool Fault
is_case field = number_in field.1 0 >>= λ flags. Ok (has_flag flags 0x40)

abbrev pub marked : Numbered → Result (Bool × Numbered) Fault
marked field = is_case field >>= λ mark. Ok (mark, field)

abbrev pub of_mark : Bool → List (Bool × Numbered) → List Numbered
of_mark mark [] = []
of_mark true ((true, field) ∷ fields) = field ∷ of_mark true fields
of_mark true ((false, field) ∷ fields) = of_mark true fields
of_mark false ((true, field) ∷ fields) = of_mark false fields
of_mark false ((false, field) ∷ fields) = field ∷ of_mark false fields

abbrev pub case_of : Tables → Bool → Numbered → Result Case Fault
case_of t flags field = do
  name ← name_in t tables.Field field 1
  bits ← constant_of t flags field.0
  Ok (record { name = name; value = int_of_bits flags bits })

-- the one field that is no case holds the value, and is named so
abbrev pub holder_flags : Tables → Numbered → Result Bool Fault
holder_flags t holder = do
  kind ← field_type t holder
  flags ← flags_of (at t tables.Field holder.0 2) kind
  name ← bytes_in holder.1 1
  named ← checked (bytes_eq name (codes "value__")) BadShape (at t tables.Field holder.0 1)
  Ok flags

abbrev pub enum_from : Tables → ℕ → List ℕ → ℕ → List (Bool × Numbered) → Result DeclTree Fault
enum_from t n full version marks = do
  holder ← the_one BadShape (at t tables.TypeDef n 4) (of_mark false marks)
  flags ← holder_flags t holder
  cases ← each (case_of t flags) (of_mark true marks)
  Ok (enum full version flags cases)

abbrev pub enum_of : Tables → ℕ → List ℕ → List Attribute → Result DeclTree Fault
enum_of t n full attributes = do
  version ← version_of t n attributes
  fields ← list_of t tables.TypeDef 4 tables.Field n
  marks ← each marked fields
  enum_from t n full version marks

abbrev pub struct_field : Tables → Numbered → Result FieldTree Fault
struct_field t field = do
  name ← name_in t tables.Field field 1
  kind ← field_type t field
  Ok (record { name = name; kind = kind })

abbrev pub struct_of : Tables → ℕ → List ℕ → List Attribute → Result DeclTree Fault
struct_of t n full attributes = do
  version ← version_of t n attributes
  rows ← list_of t tables.TypeDef 4 tables.Field n
  fields ← each (struct_field t) rows
  Ok (struct full version fields)

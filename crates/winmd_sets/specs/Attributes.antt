-- The attributes of a row, and what they say (ECMA-335 II.22.10, II.23.3). Named arguments and what stands behind the wanted ones are passed over.
use Rattle.std.specs.Prelude.{ℕ, nat_le, bytes_eq, codes, Bool, List, [], ◌∷◌, length, Option, Some, None, Result, Ok, Err}
use Rattle.std.specs.List.{filter}
use Rattle.md_schema.specs.declared.table.Table.{Table}
use Rattle.md_schema.specs.declared.table.Table.TheVariants as tables
use Rattle.md_schema.specs.declared.faults.ImageKind.TheVariants.{BadShape, MissingAttribute}
use Rattle.md_schema.specs.declared.faults.ImageFault.{ImageFault}
use Rattle.winmd_rows.specs.Faults.{Fault, fault, ◌>>=◌, each}
use Rattle.winmd_rows.specs.Values.{Value, To}
use Rattle.winmd_lines.specs.Makers.{metadata}
use Rattle.winmd_lines.specs.Cells.{Row, Numbered, Tables, at, as_row, cell, bytes_in, passes, rows_of_owner, row_at, path_of, named_at}
use Rattle.sig_blobs.specs.Attributes.{first_argument}
use Rattle.sig_blobs.specs.declared.argument.Argument.{Argument}
use Rattle.sig_blobs.specs.declared.argument.Argument.TheVariants as arguments
use Rattle.sig_blobs.specs.declared.argument.ArgumentKind.{ArgumentKind}
use Rattle.sig_blobs.specs.declared.argument.ArgumentKind.TheVariants as kinds

-- ---- attributes: the full name of its type, where its constructor's signature stands, and its row

-- a constructor: the full name of its type, and a cell with its signature
pub record Constructor : Type 0 where
  pub type_ : List ℕ
  pub signature : Row
  pub column : ℕ
  pub offset : ℕ

pub record Attribute : Type 0 where
  pub made : Constructor
  pub row : Numbered

abbrev pub no_constructor : Constructor
no_constructor = record { type_ = []; signature = []; column = 0; offset = 0 }

-- the type whose list holds a method: the last whose methods begin at it or before it
abbrev pub owner_of : Tables → ℕ → ℕ
owner_of t n = length (filter (λ row. passes (λ value. nat_le (as_row value) n) (cell row 5)) (t.rows tables.TypeDef))

abbrev pub constructor_at : Tables → ℕ → Value → Result Constructor Fault
constructor_at t offset (To tables.MemberRef n) = do
  row ← row_at t tables.MemberRef n offset
  class_ ← cell row 0
  name ← named_at t (at t tables.MemberRef n 0) class_
  Ok (record { type_ = name; signature = row; column = 2; offset = at t tables.MemberRef n 2 })
constructor_at t offset (To tables.MethodDef n) = do
  row ← row_at t tables.MethodDef n offset
  name ← named_at t offset (To tables.TypeDef (owner_of t n))
  Ok (record { type_ = name; signature = row; column = 4; offset = at t tables.MethodDef n 4 })
constructor_at t offset _ = Ok no_constructor

abbrev pub attribute_of : Tables → Numbered → Result Attribute Fault
attribute_of t row = do
  maker ← cell row.1 1
  made ← constructor_at t (at t tables.CustomAttribute row.0 1) maker
  Ok (record { made = made; row = row })

-- the attributes of a row
abbrev pub attributes_of : Tables → Table → ℕ → Result (List Attribute) Fault
attributes_of t table n = each (attribute_of t) (rows_of_owner t tables.CustomAttribute 0 table n)

abbrev pub is_of : List ℕ → Attribute → Bool
is_of word attribute = bytes_eq attribute.made.type_ (metadata word)

abbrev pub of_word : List ℕ → List Attribute → List Attribute
of_word word attributes = filter (is_of word) attributes

-- at most one of them
abbrev pub at_most_one : {A : Type 0} → ℕ → List A → Result (Option A) Fault
at_most_one offset [] = Ok None
at_most_one offset (x ∷ []) = Ok (Some x)
at_most_one offset (x ∷ y ∷ xs) = fault BadShape offset

-- ---- values of attributes (II.23.3): the first argument; those behind it are passed over

abbrev pub value_at : Tables → Attribute → ℕ
value_at t attribute = at t tables.CustomAttribute attribute.row.0 2

-- a fault of a value stands at its cell
abbrev pub placed_at : ℕ → Result Argument ImageFault → Result Argument Fault
placed_at offset (Ok argument) = Ok argument
placed_at offset (Err e) = fault e.kind offset

abbrev pub argument_of : Tables → ArgumentKind → Attribute → Result Argument Fault
argument_of t kind attribute = bytes_in attribute.row.1 2 >>= λ value. placed_at (value_at t attribute) (first_argument kind value)

abbrev pub number_of : Argument → ℕ
number_of (arguments.Number n) = n
number_of _ = 0

abbrev pub id_number : Argument → ℕ
id_number (arguments.Id id) = id
id_number _ = 0

abbrev pub text_of : Argument → List ℕ
text_of (arguments.Words text) = text
text_of (arguments.TypeName name) = name
text_of _ = []

abbrev pub words_of : Tables → Attribute → Result (List ℕ) Fault
words_of t attribute = argument_of t kinds.Words attribute >>= λ argument. Ok (text_of argument)

abbrev pub type_name_of : Tables → Attribute → Result (List ℕ) Fault
type_name_of t attribute = argument_of t kinds.TypeName attribute >>= λ argument. path_of (value_at t attribute) (text_of argument)

-- 1 where there is none
abbrev pub version_or : Tables → Option Attribute → Result ℕ Fault
version_or t None = Ok 1
version_or t (Some attribute) = argument_of t kinds.Number attribute >>= λ argument. Ok (number_of argument)

abbrev pub version_of : Tables → ℕ → List Attribute → Result ℕ Fault
version_of t n attributes = at_most_one (at t tables.TypeDef n 0) (of_word (codes "Version") attributes) >>= λ found. version_or t found

abbrev pub id_or : Tables → ℕ → Option Attribute → Result ℕ Fault
id_or t n None = fault MissingAttribute (at t tables.TypeDef n 0)
id_or t n (Some attribute) = argument_of t kinds.Id attribute >>= λ argument. Ok (id_number argument)

abbrev pub id_of : Tables → ℕ → List Attribute → Result ℕ Fault
id_of t n attributes = at_most_one (at t tables.TypeDef n 0) (of_word (codes "Guid") attributes) >>= λ found. id_or t n found

abbrev pub owner_or : Tables → Option Attribute → Result (Option (List ℕ)) Fault
owner_or t None = Ok None
owner_or t (Some attribute) = type_name_of t attribute >>= λ name. Ok (Some name)

abbrev pub exclusive_to : Tables → ℕ → List Attribute → Result (Option (List ℕ)) Fault
exclusive_to t n attributes = at_most_one (at t tables.TypeDef n 0) (of_word (codes "ExclusiveTo") attributes) >>= λ found. owner_or t found

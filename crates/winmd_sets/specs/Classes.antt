-- Classes: their interfaces, the default among them, and how they are made.
use Rattle.std.specs.Prelude.{ℕ, bytes_eq, codes, Bool, true, false, List, [], ◌∷◌, Option, Some, None, Result, Ok, if◌then◌else◌}
use Rattle.std.specs.List.{list_any}
use Rattle.md_schema.specs.declared.table.Table.TheVariants as tables
use Rattle.md_schema.specs.declared.faults.ImageKind.TheVariants.{BadShape}
use Rattle.winmd_rows.specs.Faults.{Fault, fault, ◌>>=◌, each, somes}
use Rattle.winmd_sets.specs.Blobs.{method_of}
use Rattle.winmd_lines.specs.Cells.{Tables, at, bytes_in, has_flag}
use Rattle.winmd_lines.specs.Orders.{set_by}
use Rattle.wr_base.specs.Trees.{UseTree, text_of_tree, ParamTree, DeclTree, class}
use Rattle.winmd_sets.specs.Attributes.{Attribute, at_most_one, attributes_of, is_of, of_word, type_name_of, version_of}
use Rattle.winmd_sets.specs.Interfaces.{interfaces_of, uses_in}

-- whether an interface's row has the attribute of the default
abbrev pub with_default : Tables → ℕ × UseTree → Result (Option UseTree) Fault
with_default t entry = attributes_of t tables.InterfaceImpl entry.0 >>= λ attributes. Ok (if list_any (is_of (codes "Default")) attributes then Some entry.1 else None)

-- What an Activatable says, by its constructor's first parameter: that the class is made without parameters, or by a factory.
pub data Making : Type 0 where
  Direct : Making
  Through : List ℕ → Making

abbrev pub making_by : Tables → Attribute → List ParamTree → Result Making Fault
making_by t attribute [] = fault BadShape attribute.made.offset
making_by t attribute (p ∷ ps) =
    if bytes_eq (text_of_tree p.kind) (codes "UInt32") then Ok Direct
    else if bytes_eq (text_of_tree p.kind) (codes "System.Type") then (type_name_of t attribute >>= λ name. Ok (Through name))
    else fault BadShape attribute.made.offset

abbrev pub making_of : Tables → Attribute → Result Making Fault
making_of t attribute = do
  blob ← bytes_in attribute.made.signature attribute.made.column
  sig ← method_of t attribute.made.offset blob
  making_by t attribute sig.params

abbrev pub is_direct : List Making → Bool
is_direct [] = false
is_direct (Direct ∷ makings) = true
is_direct (Through name ∷ makings) = is_direct makings

abbrev pub throughs : List Making → List (List ℕ)
throughs [] = []
throughs (Direct ∷ makings) = throughs makings
throughs (Through name ∷ makings) = name ∷ throughs makings

abbrev pub names_in_order : List (List ℕ) → List (List ℕ)
names_in_order names = set_by (λ name. name) names

-- at most one of the interfaces has the attribute
abbrev pub default_of : Tables → ℕ → List (ℕ × UseTree) → Result (Option UseTree) Fault
default_of t n interfaces = each (with_default t) interfaces >>= λ defaults. at_most_one (at t tables.TypeDef n 0) (somes defaults)

abbrev pub class_from : Tables → List ℕ → ℕ → Bool → Option UseTree → List UseTree → List Attribute → Result DeclTree Fault
class_from t full version fixed default has attributes = do
  makings ← each (making_of t) (of_word (codes "Activatable") attributes)
  statics ← each (type_name_of t) (of_word (codes "Static") attributes)
  Ok (class full version fixed default has (is_direct makings) (names_in_order (throughs makings)) (names_in_order statics))

abbrev pub class_of : Tables → ℕ → List ℕ → ℕ → List Attribute → Result DeclTree Fault
class_of t n full flags attributes = do
  version ← version_of t n attributes
  interfaces ← interfaces_of t n
  default ← default_of t n interfaces
  class_from t full version (has_flag flags 0x80) default (uses_in interfaces) attributes

-- The kinds of types, and the steps by which a type is read once its kind is known.
use Rattle.std.specs.Prelude.{ℕ, Bool, bytes_eq, codes, List, Option, None, Result, Ok, if◌then◌else◌}
use Rattle.md_schema.specs.declared.faults.ImageKind.TheVariants.{BadShape, Nested, RowRange}
use Rattle.md_schema.specs.declared.table.Table.TheVariants as tables
use Rattle.winmd_rows.specs.Faults.{Fault, fault, ◌>>=◌}
use Rattle.winmd_rows.specs.Values.{Value}
use Rattle.winmd_lines.specs.Cells.{Numbered, Tables, at, full_name_in, has_flag, is_null, none_of, path_of, rows_of_owner}
use Rattle.wr_base.specs.Trees.{DeclTree}
use Rattle.winmd_sets.specs.Attributes.{Attribute, attributes_of}
use Rattle.winmd_sets.specs.Fields.{enum_of, struct_of}
use Rattle.winmd_sets.specs.Methods.{delegate_of}
use Rattle.winmd_sets.specs.Interfaces.{interface_of}
use Rattle.winmd_sets.specs.Classes.{class_of}
use Rattle.winmd_sets.specs.Types.{named_type, numbered_type, read_type}
use Rattle.winmd_kinds.specs.declared.kinds.Kind.{Kind}
use Rattle.winmd_kinds.specs.declared.kinds.Kind.TheVariants as kinds

-- ---- kinds

-- by the full name of what a type extends
abbrev pub kind_of_base : List ℕ → Kind
kind_of_base base =
    if bytes_eq base (codes "System.Enum") then kinds.Enum
    else if bytes_eq base (codes "System.ValueType") then kinds.Struct
    else if bytes_eq base (codes "System.MulticastDelegate") then kinds.Delegate
    else if bytes_eq base (codes "System.Object") then kinds.Class
    else kinds.Other

-- an interface by flag 0x20
abbrev pub kind_by : ℕ → Value → List ℕ → Kind
kind_by flags extends base = if has_flag flags 0x20 then kinds.Interface else if is_null extends then kinds.Nothing else kind_of_base base

-- ---- what a row declares

-- the declaration of a kind
abbrev pub of_kind : Kind → Tables → ℕ → List ℕ → ℕ → List Attribute → Result DeclTree Fault
of_kind kinds.Interface t n full flags attributes = interface_of t n full attributes
of_kind kinds.Enum t n full flags attributes = enum_of t n full attributes
of_kind kinds.Struct t n full flags attributes = struct_of t n full attributes
of_kind kinds.Delegate t n full flags attributes = delegate_of t n full attributes
of_kind kinds.Class t n full flags attributes = class_of t n full flags attributes
of_kind kinds.Nothing t n full flags attributes = fault RowRange (at t tables.TypeDef n 3)
of_kind kinds.Other t n full flags attributes = fault BadShape (at t tables.TypeDef n 3)

-- with the row's number, within the limit of parts
abbrev pub declared : Kind → Tables → ℕ → List ℕ → ℕ → List Attribute → Result (Option (ℕ × DeclTree)) Fault
declared kind t n full flags attributes = of_kind kind t n full flags attributes >>= λ declaration. numbered_type t n declaration

-- no row says that a type stands within another
abbrev pub outer_of : Tables → ℕ → Result Bool Fault
outer_of t n = none_of Nested (λ m. at t tables.NestedClass m 0) (rows_of_owner t tables.NestedClass 0 tables.TypeDef n)

-- a type of this kind and full name
abbrev pub read_by : Kind → Tables → ℕ → ℕ → List ℕ → Result (Option (ℕ × DeclTree)) Fault
read_by kind t n flags full = do
  outer ← outer_of t n
  path ← path_of (at t tables.TypeDef n 1) full
  attributes ← attributes_of t tables.TypeDef n
  declared kind t n path flags attributes

-- attributes are passed over
abbrev pub named_by : Tables → Numbered → ℕ → List ℕ → Value → List ℕ → Result (Option (ℕ × DeclTree)) Fault
named_by t row flags full extends base = if bytes_eq base (codes "System.Attribute") then Ok None else read_type t row flags full extends base

-- a type that isn't the module
abbrev pub other_type : Tables → Numbered → ℕ → Result (Option (ℕ × DeclTree)) Fault
other_type t row flags = full_name_in row.1 >>= λ full. named_type t row flags full

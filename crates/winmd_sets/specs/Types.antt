-- The declarations that rows state (ECMA-335 II.22). Other rows, and columns that mean nothing here, are passed over.
use Rattle.std.specs.Prelude.{ℕ, suc, ◌+◌, ◌==◌, not, nat_lt, nat_le, bytes_eq, codes, Bool, true, List, [], ◌∷◌, length, Option, Some, None, Result, Ok, if◌then◌else◌}
use Rattle.std.specs.List.{filter, list_any}
use Rattle.md_schema.specs.declared.table.Table.{Table}
use Rattle.md_schema.specs.declared.table.Table.TheVariants as tables
use Rattle.md_schema.specs.declared.faults.ImageKind.TheVariants.{RowRange, BadShape, GenericDefinition, Nested, PastLimit}
use Rattle.winmd_rows.specs.Faults.{Fault, fault, ◌>>=◌, each, somes, checked}
use Rattle.winmd_rows.specs.Values.{Value}
use Rattle.winmd_lines.specs.Cells.{Numbered, Tables, at, cell, number_in, bytes_in, row_in, has_flag, leads_into, is_null, passes, all_rows, rows_of_owner, list_from, none_of, path_of, full_name_in, named_at}
use Rattle.winmd_lines.specs.Orders.{set_by}
use Rattle.wr_base.specs.Trees.{MemberTree, method, DeclTree, enum, struct, delegate, interface, class, name_of}
use Rattle.winmd_sets.specs.Attributes.{Attribute, attributes_of}
use Rattle.winmd_sets.specs.Fields.{enum_of, struct_of}
use Rattle.winmd_sets.specs.Methods.{delegate_of}
use Rattle.winmd_sets.specs.Interfaces.{interface_of}
use Rattle.winmd_sets.specs.Classes.{class_of}

-- ---- a type

-- A type is an interface by flag 0x20, else its kind is that of the name which it extends.
abbrev pub kind_of : Tables → ℕ → List ℕ → ℕ → Value → List ℕ → List Attribute → Result DeclTree Fault
kind_of t n full flags extends base attributes =
    if has_flag flags 0x20 then interface_of t n full attributes
    else if is_null extends then fault RowRange (at t tables.TypeDef n 3)
    else if bytes_eq base (codes "System.Enum") then enum_of t n full attributes
    else if bytes_eq base (codes "System.ValueType") then struct_of t n full attributes
    else if bytes_eq base (codes "System.MulticastDelegate") then delegate_of t n full attributes
    else if bytes_eq base (codes "System.Object") then class_of t n full flags attributes
    else fault BadShape (at t tables.TypeDef n 3)

-- how many cases, fields or members, and how many parameters
abbrev pub params_in : MemberTree → ℕ
params_in (method name abi sig) = length sig.params
params_in _ = 0

abbrev pub sum_of : {A : Type 0} → (A → ℕ) → List A → ℕ
sum_of f [] = 0
sum_of f (x ∷ xs) = f x + sum_of f xs

abbrev pub parts_of : DeclTree → ℕ
parts_of (enum name version flags cases) = length cases
parts_of (struct name version fields) = length fields
parts_of (delegate name version id invoke) = 0
parts_of (interface name version id owner requires_ members) = length members
parts_of (class name version fixed default has direct factories statics) = 0

abbrev pub all_parts_of : DeclTree → ℕ
all_parts_of (delegate name version id invoke) = length invoke.params
all_parts_of (interface name version id owner requires_ members) = length members + sum_of params_in members
all_parts_of d = parts_of d

-- a type has 4,000 parts at most
abbrev pub numbered_type : Tables → ℕ → DeclTree → Result (Option (ℕ × DeclTree)) Fault
numbered_type t n declaration = checked (nat_le (parts_of declaration) 4000) PastLimit (at t tables.TypeDef n 0) >>= λ few. Ok (Some (n, declaration))

-- a type that is read stands within no other (II.22.32)
abbrev pub read_type : Tables → Numbered → ℕ → List ℕ → Value → List ℕ → Result (Option (ℕ × DeclTree)) Fault
read_type t row flags full extends base = do
  outer ← none_of Nested (λ n. at t tables.NestedClass n 0) (rows_of_owner t tables.NestedClass 0 tables.TypeDef row.0)
  path ← path_of (at t tables.TypeDef row.0 1) full
  attributes ← attributes_of t tables.TypeDef row.0
  declaration ← kind_of t row.0 path flags extends base attributes
  numbered_type t row.0 declaration

abbrev pub base_at : Tables → ℕ → Value → Result (List ℕ) Fault
base_at t offset extends = if is_null extends then Ok [] else named_at t offset extends

-- attributes are passed over
abbrev pub named_type : Tables → Numbered → ℕ → List ℕ → Result (Option (ℕ × DeclTree)) Fault
named_type t row flags full = do
  extends ← cell row.1 3
  base ← base_at t (at t tables.TypeDef row.0 3) extends
  if bytes_eq base (codes "System.Attribute") then Ok None else read_type t row flags full extends base

-- `<Module>` is passed over, by its name alone
abbrev pub flagged_type : Tables → Numbered → ℕ → Result (Option (ℕ × DeclTree)) Fault
flagged_type t row flags = bytes_in row.1 1 >>= λ name. if bytes_eq name (codes "<Module>") then Ok None else (full_name_in row.1 >>= λ full. named_type t row flags full)

-- types without flag 0x4000 are passed over
abbrev pub type_of : Tables → Numbered → Result (Option (ℕ × DeclTree)) Fault
type_of t row = number_in row.1 0 >>= λ flags. if has_flag flags 0x4000 then flagged_type t row flags else Ok None

-- ---- the set

-- a list that begins at 0 has no rows, whosever list it is
abbrev pub begun : Tables → Table → ℕ → Table → Numbered → Result Bool Fault
begun t owner column member row = row_in row.1 column >>= λ first.
    if first == 0 then (list_from t owner column member (suc row.0) >>= λ end. checked (end == 0) RowRange (at t owner row.0 column)) else Ok true

abbrev pub lists_begin : Tables → Table → ℕ → Table → Result (List Bool) Fault
lists_begin t owner column member = each (begun t owner column member) (all_rows t owner)

-- of all five columns that begin lists
abbrev pub all_begin : Tables → Result (List Bool) Fault
all_begin t = do
  fields ← lists_begin t tables.TypeDef 4 tables.Field
  methods ← lists_begin t tables.TypeDef 5 tables.MethodDef
  params ← lists_begin t tables.MethodDef 5 tables.Param
  events ← lists_begin t tables.EventMap 1 tables.Event
  lists_begin t tables.PropertyMap 1 tables.Property

-- no type has a generic parameter (II.22.20)
abbrev pub none_generic : Tables → Result Bool Fault
none_generic t = none_of GenericDefinition (λ n. at t tables.GenericParam n 2) (filter (λ row. passes (leads_into tables.TypeDef) (cell row.1 2)) (all_rows t tables.GenericParam))

-- The declarations behind so many others with so many parts: at most 20,000 with 500,000 parts together, and no full name twice.
abbrev pub set_of : Tables → ℕ → ℕ → List (ℕ × DeclTree) → Result (List DeclTree) Fault
set_of t types parts [] = Ok []
set_of t types parts (d ∷ ds) = do
  few ← checked (nat_lt types 20000) PastLimit (at t tables.TypeDef d.0 0)
  small ← checked (nat_le (parts + all_parts_of d.1) 500000) PastLimit (at t tables.TypeDef d.0 0)
  once ← checked (not (list_any (λ e. bytes_eq (name_of d.1) (name_of e.1)) ds)) BadShape (at t tables.TypeDef d.0 1)
  others ← set_of t (suc types) (parts + all_parts_of d.1) ds
  Ok (d.1 ∷ others)

-- The declarations that rows state, in the order of full names.
abbrev pub types_of : Tables → Result (List DeclTree) Fault
types_of t = do
  lists ← all_begin t
  plain_types ← none_generic t
  types ← each (type_of t) (all_rows t tables.TypeDef)
  set ← set_of t 0 0 (somes types)
  Ok (set_by name_of set)

-- Interfaces: what each method is, then methods put together to members, then what these say (ECMA-335 II.22.28).
use Rattle.std.specs.Prelude.{ℕ, zero, suc, ◌==◌, bytes_eq, codes, Bool, true, false, List, [], ◌∷◌, ◌++◌, map, length, Option, Some, None, Result, Ok, if◌then◌else◌}
use Rattle.std.specs.List.{filter}
use Rattle.md_schema.specs.declared.table.Table.{Table}
use Rattle.md_schema.specs.declared.table.Table.TheVariants as tables
use Rattle.md_schema.specs.declared.faults.ImageKind.TheVariants.{BadShape}
use Rattle.winmd_rows.specs.Faults.{Fault, fault, ◌>>=◌, each}
use Rattle.winmd_rows.specs.Values.{Value, To}
use Rattle.winmd_sets.specs.Blobs.{property_of}
use Rattle.winmd_lines.specs.Cells.{Numbered, Tables, at, cell, number_in, bytes_in, rows_of_owner, row_at, list_of, identifier_of, name_in}
use Rattle.winmd_lines.specs.Orders.{set_by}
use Rattle.sig_blobs.specs.Templates.{decimal_of}
use Rattle.wr_base.specs.Trees.{UseTree, text_of_tree, MemberTree, method, property, event, DeclTree, interface}
use Rattle.winmd_sets.specs.Attributes.{Attribute, at_most_one, attributes_of, exclusive_to, id_of, of_word, value_at, version_of, words_of}
use Rattle.winmd_sets.specs.Members.{method_names}
use Rattle.winmd_sets.specs.Uses.{use_in}
use Rattle.winmd_sets.specs.Methods.{signature_of}

-- ---- members of an interface: what each method is, then methods put together, then what they say

-- a method, or an accessor of a row of Property or Event
pub data Role : Type 0 where
  Method : Role
  Getter : Numbered → Role
  Setter : Numbered → Role
  Adder : Numbered → Role
  Remover : Numbered → Role

abbrev pub accessor_of : ℕ → ℕ → Table → Numbered → Result Role Fault
accessor_of offset meaning tables.Property row = if meaning == 2 then Ok (Getter row) else if meaning == 1 then Ok (Setter row) else fault BadShape offset
accessor_of offset meaning tables.Event row = if meaning == 8 then Ok (Adder row) else if meaning == 0x10 then Ok (Remover row) else fault BadShape offset
accessor_of offset meaning _ row = fault BadShape offset

abbrev pub association_of : Tables → Numbered → ℕ → Value → Result Role Fault
association_of t semantics meaning (To table n) = do
  row ← row_at t table n (at t tables.MethodSemantics semantics.0 2)
  accessor_of (at t tables.MethodSemantics semantics.0 0) meaning table (n, row)
association_of t semantics meaning _ = fault BadShape (at t tables.MethodSemantics semantics.0 2)

abbrev pub role_in : Tables → Option Numbered → Result Role Fault
role_in t None = Ok Method
role_in t (Some semantics) = do
  meaning ← number_in semantics.1 0
  association ← cell semantics.1 2
  association_of t semantics meaning association

abbrev pub role_of : Tables → Numbered → Result (Role × Numbered) Fault
role_of t row = do
  semantics ← at_most_one (at t tables.MethodDef row.0 0) (rows_of_owner t tables.MethodSemantics 1 tables.MethodDef row.0)
  role ← role_in t semantics
  Ok (role, row)

-- a method; a property, with whether it is put; an event
pub data Item : Type 0 where
  OfMethod : Numbered → Item
  OfProperty : Numbered → Bool → Item
  OfEvent : Numbered → Item

abbrev pub with_item : Item → Result (List Item) Fault → Result (List Item) Fault
with_item item items = items >>= λ others. Ok (item ∷ others)

-- a getter and the setter of its property behind it, an adder and its remover behind it
abbrev pub items_of : Tables → List (Role × Numbered) → Result (List Item) Fault
items_of t [] = Ok []
items_of t ((Method, m) ∷ rest) = with_item (OfMethod m) (items_of t rest)
items_of t ((Getter p, m) ∷ (Setter q, n) ∷ rest) = if p.0 == q.0 then with_item (OfProperty p true) (items_of t rest) else fault BadShape (at t tables.MethodDef n.0 0)
items_of t ((Getter p, m) ∷ rest) = with_item (OfProperty p false) (items_of t rest)
items_of t ((Adder p, m) ∷ (Remover q, n) ∷ rest) = if p.0 == q.0 then with_item (OfEvent p) (items_of t rest) else fault BadShape (at t tables.MethodDef m.0 0)
items_of t ((Adder p, m) ∷ rest) = fault BadShape (at t tables.MethodDef m.0 0)
items_of t ((Setter p, m) ∷ rest) = fault BadShape (at t tables.MethodDef m.0 0)
items_of t ((Remover p, m) ∷ rest) = fault BadShape (at t tables.MethodDef m.0 0)

-- the name in the ABI of the method behind so many of its name
abbrev pub numbered_name : List ℕ → ℕ → List ℕ
numbered_name name zero = name
numbered_name name (suc before) = name ++ decimal_of (suc (suc before))

abbrev pub abi_or : Tables → Numbered → List ℕ → Option Attribute → Result (List ℕ) Fault
abi_or t row name None = identifier_of 511 (at t tables.MethodDef row.0 3) name
abi_or t row name (Some attribute) = words_of t attribute >>= λ words. identifier_of 511 (value_at t attribute) words

-- how often a name stands among others
abbrev pub times : List ℕ → List (List ℕ) → ℕ
times name names = length (filter (bytes_eq name) names)

-- the name in the ABI, which is this where no attribute gives another
abbrev pub abi_of : Tables → Numbered → List ℕ → Result (List ℕ) Fault
abi_of t row name = do
  attributes ← attributes_of t tables.MethodDef row.0
  overload ← at_most_one (at t tables.MethodDef row.0 0) (of_word (codes "Overload") attributes)
  abi_or t row name overload

abbrev pub member_of : Tables → List (List ℕ) → Item → Result MemberTree Fault
member_of t earlier (OfMethod row) = do
  name ← name_in t tables.MethodDef row 3
  abi ← abi_of t row (numbered_name name (times name earlier))
  sig ← signature_of t row
  Ok (method name abi sig)
member_of t earlier (OfProperty row put) = do
  name ← name_in t tables.Property row 1
  blob ← bytes_in row.1 2
  kind ← property_of t (at t tables.Property row.0 2) blob
  Ok (property name kind put)
member_of t earlier (OfEvent row) = do
  name ← name_in t tables.Event row 1
  kind ← use_in t tables.Event row 2
  Ok (event name kind)

abbrev pub members_of : Tables → List (List ℕ) → List Item → Result (List MemberTree) Fault
members_of t earlier [] = Ok []
members_of t earlier (item ∷ items) = do
  member ← member_of t earlier item
  others ← members_of t (method_names member ++ earlier) items
  Ok (member ∷ others)

-- ---- interfaces and classes

abbrev pub interfaces_of : Tables → ℕ → Result (List (ℕ × UseTree)) Fault
interfaces_of t n = each (λ row. use_in t tables.InterfaceImpl row 1 >>= λ use_. Ok (row.0, use_)) (rows_of_owner t tables.InterfaceImpl 0 tables.TypeDef n)

abbrev pub uses_in : List (ℕ × UseTree) → List UseTree
uses_in interfaces = set_by text_of_tree (map (λ entry. entry.1) interfaces)

abbrev pub members_in : Tables → ℕ → Result (List MemberTree) Fault
members_in t n = do
  methods ← list_of t tables.TypeDef 5 tables.MethodDef n
  roles ← each (role_of t) methods
  items ← items_of t roles
  members_of t [] items

abbrev pub interface_from : Tables → ℕ → List ℕ → ℕ → ℕ → Option (List ℕ) → Result DeclTree Fault
interface_from t n full version id owner = do
  interfaces ← interfaces_of t n
  members ← members_in t n
  Ok (interface full version id owner (uses_in interfaces) members)

abbrev pub interface_of : Tables → ℕ → List ℕ → List Attribute → Result DeclTree Fault
interface_of t n full attributes = do
  version ← version_of t n attributes
  id ← id_of t n attributes
  owner ← exclusive_to t n attributes
  interface_from t n full version id owner

-- The declarations of a set of sources, with each use resolved, and their places.
use Rattle.std.specs.Prelude.{ℕ, pos, ◌^◌, Bool, true, false, cond, List, [], ◌∷◌, ◌++◌, Option, None, map, nat_lt, if◌then◌else◌}
use Rattle.std.specs.List.{flat_map, list_any}
use Rattle.std.specs.Option.{option_map, unwrap_or}
use Rattle.std.specs.Int.{from_be_bytes}
use mir.Syntax.{w128}
use Rattle.ranked.specs.declared.place.Place.{Place}
use Rattle.wr_base.specs.declared.places.DeclPlaces.{DeclPlaces}
use Rattle.wr_base.specs.declared.declaration.Signature.{Signature}
use Rattle.wr_base.specs.declared.declaration.Member.{Member}
use Rattle.wr_base.specs.declared.declaration.Declaration.{Declaration}
use Rattle.wr_base.specs.declared.declaration.Declaration.TheVariants as decls
use Rattle.midl_lex.specs.Numbers.{value_of}
use Rattle.midl_tree.specs.declared.terminal.Terminal.{Terminal}
use Rattle.midl_tree.specs.Trees.{EnumTree, AttributeTree, uuid, version, flags, default_interface, MemberTree, method, event, properties, property, ClassMemberTree, member, constructor, StructTree, DelegateTree, InterfaceTree, ClassTree, DeclTree, enumeration, structure, delegate, interface, class}
use Rattle.midl_names.specs.declared.sort.Sort.{Sort}
use Rattle.placed_items.specs.declared.placed.WrittenClass.{WrittenClass}
use Rattle.placed_items.specs.declared.placed.Written.{Written}
use Rattle.placed_items.specs.declared.placed.Written.TheVariants.{Done, Class}
use Rattle.placed_items.specs.declared.placed.PlacedItem.{PlacedItem}
use Rattle.midl_names.specs.Items.{Item, Source, items_of, own_name, full_name}
use Rattle.midl_names.specs.Attributes.{id_bytes}
use Rattle.midl_names.specs.Lookup.{declared_sort}
use Rattle.midl_names.specs.Members.{cases_from, fields_of, members_of, named_from}
use Rattle.midl_names.specs.Resolved.{resolved, signature_of}

-- a version of 2^32 or more is broken, and what stands here for it is never seen
abbrev pub version_by : ℕ → ℕ
version_by n = if nat_lt n (2 ^ 32) then n else 1

-- the version that is written, or 1
abbrev pub version_of : List AttributeTree → ℕ
version_of [] = 1
version_of (version word number ∷ more) = version_by (value_of number.text)
version_of (uuid word id ∷ more) = version_of more
version_of (flags word ∷ more) = version_of more
version_of (default_interface word ∷ more) = version_of more

-- the id that is written, as a number with the high byte first
abbrev pub id_of : List AttributeTree → Option ℕ
id_of [] = None
id_of (uuid word id ∷ more) = option_map (from_be_bytes w128) (id_bytes id.text)
id_of (version word number ∷ more) = id_of more
id_of (flags word ∷ more) = id_of more
id_of (default_interface word ∷ more) = id_of more

abbrev pub is_flags : AttributeTree → Bool
is_flags (flags word) = true
is_flags (uuid word id) = false
is_flags (version word number) = false
is_flags (default_interface word) = false

abbrev pub is_mark : AttributeTree → Bool
is_mark (default_interface word) = true
is_mark (uuid word id) = false
is_mark (version word number) = false
is_mark (flags word) = false

-- a class's static members, or its instance members
abbrev pub members_on : Bool → ClassMemberTree → List MemberTree
members_on side (member fixed m) = cond side (cond fixed (m ∷ []) []) (cond fixed [] (m ∷ []))
members_on side (constructor name params) = []

-- the names of a member
abbrev pub names_of : MemberTree → List Terminal
names_of (method result name params) = name ∷ []
names_of (event kind name) = name ∷ []
names_of (properties kind names) = names
names_of (property kind name put) = name ∷ []

abbrev pub constructor_name : ClassMemberTree → List Terminal
constructor_name (member fixed m) = []
constructor_name (constructor name params) = name ∷ []

-- the names of a class's members, statics and constructors
abbrev pub class_names : List ClassMemberTree → List Terminal
class_names ms = flat_map names_of (flat_map (members_on false) ms) ++ flat_map names_of (flat_map (members_on true) ms) ++ flat_map constructor_name ms

-- the names of the parts of a declaration: cases, fields or members; of a class members, statics and constructors
abbrev pub part_names : DeclTree → List Terminal
part_names (enumeration e) = map (λ c. c.name) e.cases
part_names (structure s) = flat_map (λ f. f.names) s.fields
part_names (delegate d) = []
part_names (interface i) = flat_map names_of i.members
part_names (class c) = class_names c.members

abbrev pub place_at : ℕ → Terminal → Place
place_at file name = record { file = file; offset = name.offset }

abbrev pub places_of : Item → DeclPlaces
places_of i = record { at = place_at i.file (own_name i.tree); parts = map (place_at i.file) (part_names i.tree) }

abbrev pub enum_of : Item → EnumTree → Declaration
enum_of i e = decls.Enum (full_name i) (version_of i.attributes) (list_any is_flags i.attributes) (cases_from (pos 0) e.cases)

module _ (known : List ℕ → Option Sort) where
  -- members with their ABI names
  abbrev pub members_in : List (List ℕ) → List MemberTree → List Member
  members_in space members = named_from [] (flat_map (members_of known space) members)

  abbrev pub constructors_of : List (List ℕ) → ClassMemberTree → List Signature
  constructors_of space (member fixed m) = []
  constructors_of space (constructor name params) = signature_of known space None params ∷ []

  abbrev pub struct_of : Item → StructTree → Declaration
  struct_of i s = decls.Struct (full_name i) (version_of i.attributes) (flat_map (fields_of known i.space) s.fields)

  abbrev pub delegate_of : Item → DelegateTree → Declaration
  delegate_of i d = decls.Delegate (full_name i) (version_of i.attributes) (unwrap_or (id_of i.attributes) 0) (signature_of known i.space d.result d.params)

  abbrev pub interface_of : Item → InterfaceTree → Declaration
  interface_of i t = decls.Interface (full_name i) (version_of i.attributes) (unwrap_or (id_of i.attributes) 0) None (map (resolved known i.space) t.required) (members_in i.space t.members)

  abbrev pub class_of : Item → ClassTree → WrittenClass
  class_of i c = record {
    name = full_name i;
    version = version_of i.attributes;
    fixed = c.fixed;
    marked = list_any is_mark i.attributes;
    listed = map (resolved known i.space) c.bases;
    constructors = flat_map (constructors_of i.space) c.members;
    members = members_in i.space (flat_map (members_on false) c.members);
    statics = members_in i.space (flat_map (members_on true) c.members);
  }

  abbrev pub written_by : Item → DeclTree → Written
  written_by i (enumeration e) = Done (enum_of i e)
  written_by i (structure s) = Done (struct_of i s)
  written_by i (delegate d) = Done (delegate_of i d)
  written_by i (interface t) = Done (interface_of i t)
  written_by i (class c) = Class (class_of i c)

  abbrev pub placed_of : Item → PlacedItem
  placed_of i = record { item = written_by i i.tree; id = id_of i.attributes; places = places_of i }

-- what the items declare, where no name is broken
abbrev pub declares : List Item → List PlacedItem
declares items = map (placed_of (declared_sort items)) items

-- what the sources declare
abbrev pub Declares : List Source → List PlacedItem
Declares sources = declares (items_of sources)

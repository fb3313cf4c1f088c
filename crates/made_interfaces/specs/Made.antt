-- The interfaces that are made of a class (C++/WinRT and MIDL 3.0 reference, Classes).
use Rattle.std.specs.Prelude.{ℕ, ◌+◌, ◌==◌, Bool, true, false, not, ◌&&◌, ◌||◌, List, [], ◌∷◌, ◌++◌, Option, Some, None, length, take, drop, codes, if◌then◌else◌}
use Rattle.std.specs.List.{filter, flat_map, list_any}
use Rattle.std.specs.Fmt.{decimal}
use Rattle.ranked.specs.declared.place.Place.{Place}
use Rattle.wr_base.specs.Parts.{before_last, behind_last}
use Rattle.wr_base.specs.declared.places.DeclPlaces.{DeclPlaces}
use Rattle.wr_base.specs.declared.declaration.Signature.{Signature}
use Rattle.wr_base.specs.declared.declaration.Member.{Member}
use Rattle.wr_base.specs.declared.declaration.Member.TheVariants.{Method}
use Rattle.wr_base.specs.declared.declaration.Declaration.{Declaration}
use Rattle.wr_base.specs.declared.declaration.Declaration.TheVariants.{Enum, Struct, Delegate, Interface, Class}
use Rattle.wr_base.specs.declared.type_use.TypeUse.{TypeUse}
use Rattle.wr_base.specs.declared.type_use.TypeUse.TheVariants.{Reference}
use Rattle.wr_rules.specs.ListRules.{is_empty}
use Rattle.wr_rules.specs.Signatures.{named_id}
use Rattle.wr_rules.specs.Sites.{Site}
use Rattle.placed_items.specs.declared.placed.WrittenClass.{WrittenClass}
use Rattle.placed_items.specs.declared.placed.Written.{Written}
use Rattle.placed_items.specs.declared.placed.Written.TheVariants as written
use Rattle.placed_items.specs.declared.placed.PlacedItem.{PlacedItem}

-- I, the class's own name and this word, in the class's namespace
abbrev pub made_name : List ℕ → List ℕ → List ℕ
made_name class word = before_last 46 class ++ 46 ∷ 73 ∷ (behind_last 46 class ++ word)

-- it lists no interface, and has a constructor or no statics
abbrev pub is_bare : WrittenClass → Bool
is_bare c = is_empty c.listed && (not (is_empty c.constructors) || is_empty c.statics)

-- of instance members, of the attribute, or where nothing else would be its default; a static class has one of members alone
abbrev pub makes_default : WrittenClass → Bool
makes_default c = not (is_empty c.members) || (not c.fixed && (c.marked || is_bare c))

-- of static members
abbrev pub makes_statics : WrittenClass → Bool
makes_statics c = not (is_empty c.statics)

-- a constructor has parameters
abbrev pub takes_some : Signature → Bool
takes_some s = not (is_empty s.params)

-- of constructors with parameters
abbrev pub makes_factory : WrittenClass → Bool
makes_factory c = list_any takes_some c.constructors

-- a constructor without parameters needs no interface
abbrev pub is_direct : WrittenClass → Bool
is_direct c = list_any (λ s. is_empty s.params) c.constructors

-- CreateInstance, CreateInstance2 and so on
abbrev pub factory_name : ℕ → List ℕ
factory_name k = if k == 0 then codes "CreateInstance" else codes "CreateInstance" ++ decimal (k + 1)

-- a constructor's parameters, and the class as result
abbrev pub makes : List ℕ → Signature → Signature
makes class s = record { params = s.params; result = Some (Reference class) }

-- the method for a constructor behind so many
abbrev pub factory_method : List ℕ → ℕ → Signature → Member
factory_method class k s = Method (factory_name k) (factory_name k) (makes class s)

-- a method for each constructor, of which the first stands behind so many
abbrev pub factory_methods : List ℕ → ℕ → List Signature → List Member
factory_methods class k [] = []
factory_methods class k (s ∷ ss) = factory_method class k s ∷ factory_methods class (k + 1) ss

-- an interface that is made stands at its first part, or at its class's name
abbrev pub first_place : Place → List Place → Place
first_place at [] = at
first_place at (p ∷ ps) = p

-- so it has these places
abbrev pub placed_at : Place → List Place → DeclPlaces
placed_at at parts = record { at = first_place at parts; parts = parts }

-- an interface of this name for the class alone
abbrev pub interface_of : WrittenClass → List ℕ → List Member → Declaration
interface_of c name members = Interface name c.version (named_id name) (Some c.name) [] members

-- the same where it stands
abbrev pub made : WrittenClass → List ℕ → List Member → DeclPlaces → Site
made c word members places = record { decl = interface_of c (made_name c.name word) members; places = places }

-- the places of a class's members, which stand first
abbrev pub member_places : WrittenClass → List Place → List Place
member_places c places = take (length c.members) places

-- the places of the static members
abbrev pub static_places : WrittenClass → List Place → List Place
static_places c places = take (length c.statics) (drop (length c.members) places)

-- of constructors and their places, the places of those with parameters
abbrev pub chosen : List Signature → List Place → List Place
chosen [] places = []
chosen (s ∷ ss) [] = []
chosen (s ∷ ss) (p ∷ ps) = if takes_some s then p ∷ chosen ss ps else chosen ss ps

-- the places of the constructors with parameters
abbrev pub factory_places : WrittenClass → List Place → List Place
factory_places c places = chosen c.constructors (drop (length c.statics) (drop (length c.members) places))

-- this one where the test holds, and none else
abbrev pub where_ : {X : Type 0} → Bool → X → List X
where_ true x = x ∷ []
where_ false x = []

-- a use of its own interface, if it has one
abbrev pub own_interface : WrittenClass → List TypeUse
own_interface c = where_ (makes_default c) (Reference (made_name c.name []))

-- what the class lists, its own interface first
abbrev pub listed_by : WrittenClass → List TypeUse
listed_by c = own_interface c ++ c.listed

-- the first use of a list
abbrev pub first_use : List TypeUse → Option TypeUse
first_use [] = None
first_use (u ∷ us) = Some u

-- its factory, if it has one
abbrev pub factories_of : WrittenClass → List (List ℕ)
factories_of c = where_ (makes_factory c) (made_name c.name (codes "Factory"))

-- the interface of its statics, if it has one
abbrev pub statics_of : WrittenClass → List (List ℕ)
statics_of c = where_ (makes_statics c) (made_name c.name (codes "Statics"))

-- the class with these lists, whose default is the first of `has`
abbrev pub class_with : WrittenClass → List TypeUse → List (List ℕ) → List (List ℕ) → Declaration
class_with c has factories statics = Class c.name c.version c.fixed (first_use has) has (is_direct c) factories statics

-- the class with its own lists
abbrev pub class_itself : WrittenClass → Declaration
class_itself c = class_with c (listed_by c) (factories_of c) (statics_of c)

-- the interface of its members
abbrev pub default_site : WrittenClass → DeclPlaces → Site
default_site c p = made c [] c.members (placed_at p.at (member_places c p.parts))

-- the interface of its static members
abbrev pub statics_site : WrittenClass → DeclPlaces → Site
statics_site c p = made c (codes "Statics") c.statics (placed_at p.at (static_places c p.parts))

-- the interface of its constructors with parameters
abbrev pub factory_site : WrittenClass → DeclPlaces → Site
factory_site c p = made c (codes "Factory") (factory_methods c.name 0 (filter takes_some c.constructors)) (placed_at p.at (factory_places c p.parts))

-- the interfaces that are made of a class
abbrev pub made_sites : WrittenClass → DeclPlaces → List Site
made_sites c p = where_ (makes_default c) (default_site c p) ++ where_ (makes_statics c) (statics_site c p) ++ where_ (makes_factory c) (factory_site c p)

-- the class where it stands, without places of parts
abbrev pub class_site : WrittenClass → DeclPlaces → Site
class_site c p = record { decl = class_itself c; places = record { at = p.at; parts = [] } }

-- a class and what is made of it; the lists aren't closed yet
abbrev pub class_sites : WrittenClass → DeclPlaces → List Site
class_sites c p = class_site c p ∷ made_sites c p

-- the id that is written, or that of the name
abbrev pub id_or_named : Option ℕ → List ℕ → ℕ
id_or_named None name = named_id name
id_or_named (Some id) name = id

-- with the id of its name where none is written
abbrev pub with_id : Option ℕ → Declaration → Declaration
with_id written_ (Delegate name version id invoke) = Delegate name version (id_or_named written_ name) invoke
with_id written_ (Interface name version id owner requires_ members) = Interface name version (id_or_named written_ name) owner requires_ members
with_id written_ (Enum name version flags cases) = Enum name version flags cases
with_id written_ (Struct name version fields) = Struct name version fields
with_id written_ (Class name version fixed default has direct factories statics) = Class name version fixed default has direct factories statics

-- a declaration that isn't a class, where it stands
abbrev pub done_site : PlacedItem → Declaration → Site
done_site i d = record { decl = with_id i.id d; places = i.places }

-- what an item declares
abbrev pub sites_by : PlacedItem → Written → List Site
sites_by i (written.Done d) = done_site i d ∷ []
sites_by i (written.Class c) = class_sites c i.places

-- the declarations of an item, each with its places
abbrev pub item_sites : PlacedItem → List Site
item_sites i = sites_by i i.item

-- the names of the interfaces that are made of a class
abbrev pub names_made : WrittenClass → List (List ℕ)
names_made c = where_ (makes_default c) (made_name c.name []) ++ statics_of c ++ factories_of c

-- the names that an item makes
abbrev pub made_by : Written → List (List ℕ)
made_by (written.Done d) = []
made_by (written.Class c) = names_made c

-- all declarations of these items, their lists as they are written
abbrev pub raw : List PlacedItem → List Site
raw items = flat_map item_sites items

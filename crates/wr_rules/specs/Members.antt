-- What members are called, and where parts stand.
use Rattle.std.specs.Prelude.{ℕ, Bool, true, false, List, [], ◌∷◌, ◌++◌, Option, Some, None, map, codes}
use Rattle.std.specs.Char.{to_ascii_lowercase}
use Rattle.std.specs.List.{flat_map}
use Rattle.ranked.specs.declared.place.Place.{Place}
use Rattle.wr_base.specs.declared.declaration.Case.{Case}
use Rattle.wr_base.specs.declared.declaration.Field.{Field}
use Rattle.wr_base.specs.declared.declaration.Signature.{Signature}
use Rattle.wr_base.specs.declared.declaration.Member.{Member}
use Rattle.wr_base.specs.declared.declaration.Member.TheVariants.{Method, Property, Event}
use Rattle.wr_base.specs.declared.declaration.Declaration.{Declaration}
use Rattle.wr_base.specs.declared.declaration.Declaration.TheVariants.{Enum, Struct, Delegate, Interface, Class}
use Rattle.found_table.specs.Found.{FoundMemberRow, FoundRow}
use Rattle.wr_rules.specs.Kinds.{Meaning, declared, found}
use Rattle.wr_rules.specs.Sites.{Spot, Site, part_spot}

-- the name of a member
abbrev pub member_name : Member → List ℕ
member_name (Method name abi sig) = name
member_name (Property name ty put) = name
member_name (Event name ty) = name

-- the accessors of a property and of an event
abbrev pub property_accessors : List ℕ → Bool → List (List ℕ)
property_accessors name true = (codes "get_" ++ name) ∷ (codes "put_" ++ name) ∷ []
property_accessors name false = (codes "get_" ++ name) ∷ []

-- those of an event
abbrev pub event_accessors : List ℕ → List (List ℕ)
event_accessors name = (codes "add_" ++ name) ∷ (codes "remove_" ++ name) ∷ []

-- the accessors of a member
abbrev pub accessors_of : Member → List (List ℕ)
accessors_of (Method name abi sig) = []
accessors_of (Property name ty put) = property_accessors name put
accessors_of (Event name ty) = event_accessors name

-- the ABI names: a method's own, and accessors' names
abbrev pub abi_names : Member → List (List ℕ)
abi_names (Method name abi sig) = abi ∷ []
abi_names (Property name ty put) = property_accessors name put
abi_names (Event name ty) = event_accessors name

-- the names of a found member and of its accessors
abbrev pub found_names : FoundMemberRow → List (List ℕ)
found_names (FoundMemberRow.Method name result) = name ∷ []
found_names (FoundMemberRow.Property name ty) = name ∷ property_accessors name false

-- the names of members and of accessors of what a use means
abbrev pub names_within : Option Meaning → List (List ℕ)
names_within (Some (declared (Interface name version id owner requires_ members))) = flat_map (λ m. member_name m ∷ accessors_of m) members
names_within (Some (found (FoundRow.Interface name arguments id members))) = flat_map found_names members
names_within _ = []

-- the members of an interface
abbrev pub members_of : Declaration → List Member
members_of (Interface name version id owner requires_ members) = members
members_of (Enum name version flags cases) = []
members_of (Struct name version fields) = []
members_of (Delegate name version id invoke) = []
members_of (Class name version fixed default has direct factories statics) = []

-- the cases of an enum
abbrev pub cases_of : Declaration → List Case
cases_of (Enum name version flags cases) = cases
cases_of (Struct name version fields) = []
cases_of (Delegate name version id invoke) = []
cases_of (Interface name version id owner requires_ members) = []
cases_of (Class name version fixed default has direct factories statics) = []

-- the fields of a struct
abbrev pub fields_of : Declaration → List Field
fields_of (Struct name version fields) = fields
fields_of (Enum name version flags cases) = []
fields_of (Delegate name version id invoke) = []
fields_of (Interface name version id owner requires_ members) = []
fields_of (Class name version fixed default has direct factories statics) = []

-- a part with the spot where it stands
pub record Standing (X : Type 0) : Type 0 where
  pub part : X
  pub spot : Spot

-- each part at its place
abbrev pub standing : {X : Type 0} → Site → (X → List ℕ) → List X → List Place → List (Standing X)
standing s name [] places = []
standing s name (x ∷ xs) [] = []
standing s name (x ∷ xs) (p ∷ ps) = record { part = x; spot = part_spot s p (name x) } ∷ standing s name xs ps

-- the members of a site where they stand
abbrev pub members_at : Site → List (Standing Member)
members_at s = standing s member_name (members_of s.decl) s.places.parts

-- the cases of a site where they stand
abbrev pub cases_at : Site → List (Standing Case)
cases_at s = standing s (λ c. c.name) (cases_of s.decl) s.places.parts

-- the fields of a site where they stand
abbrev pub fields_at : Site → List (Standing Field)
fields_at s = standing s (λ f. f.name) (fields_of s.decl) s.places.parts

-- the signature of a method
abbrev pub signature_in : Member → Option Signature
signature_in (Method name abi sig) = Some sig
signature_in (Property name ty put) = None
signature_in (Event name ty) = None

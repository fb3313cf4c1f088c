-- Rules on the parts of one declaration.
use Rattle.std.specs.Prelude.{◌≡◌, ◌≢◌, ℕ, pos, negsuc, ℤ, int_le, ◌^◌, ◌-◌, IsTrue, Bool, true, false, not, ◌&&◌, ◌||◌, List, [], ◌∷◌, Option, Some, None, length, slice_get}
use Rattle.std.specs.List.{list_any, filter_map}
use Rattle.std.specs.Option.{is_some, option_map}
use Rattle.std.specs.Str.{bytes_eq}
use Rattle.ranked.specs.Entries.{Entry}
use Rattle.ranked.specs.First.{Among, Below, At, Only}
use Rattle.ranked.specs.Repeats.{Repeated}
use Rattle.wr_base.specs.declared.code.Code.TheVariants.{EnumRepeat, FieldRepeat, ParamRepeat, EnumRange, StructEmpty, OverloadArity, OverloadKind, MemberCase, AccessorClash}
use Rattle.wr_base.specs.declared.code.Code.{Code}
use Rattle.wr_base.specs.declared.declaration.Signature.{Signature}
use Rattle.wr_base.specs.declared.declaration.Member.{Member}
use Rattle.wr_base.specs.declared.declaration.Declaration.{Declaration}
use Rattle.wr_base.specs.declared.declaration.Declaration.TheVariants.{Enum, Struct, Delegate, Interface}
use Rattle.wr_rules.specs.Sites.{Spot, Site, spot_of, broken_at, If}
use Rattle.wr_rules.specs.Members.{member_name, abi_names, signature_in, Standing, members_at, cases_at, fields_at}
use Rattle.wr_base.specs.Lower.{lower}

-- a signature where its member stands
abbrev pub with_spot : Spot → Option Signature → Option (Standing Signature)
with_spot spot None = None
with_spot spot (Some sig) = Some (record { part = sig; spot = spot })

-- the signatures of a declaration, each where its member or the delegate stands
abbrev pub invokes_at : Site → Declaration → List (Standing Signature)
invokes_at s (Delegate name version id invoke) = record { part = invoke; spot = spot_of s } ∷ []
invokes_at s (Interface name version id owner requires_ members) = filter_map (λ m. with_spot m.spot (signature_in m.part)) (members_at s)
invokes_at s _ = []

-- all signatures of a site
abbrev pub signatures_at : Site → List (Standing Signature)
signatures_at s = invokes_at s s.decl

-- ---- names that a later one repeats

-- a later case repeats a name
abbrev pub IsEnumRepeat : Site → Entry → Type 0
IsEnumRepeat s = Repeated (λ c. lower c.part.name) (λ c. broken_at EnumRepeat c.spot) (cases_at s)

-- a later field repeats a name
abbrev pub IsFieldRepeat : Site → Entry → Type 0
IsFieldRepeat s = Repeated (λ f. lower f.part.name) (λ f. broken_at FieldRepeat f.spot) (fields_at s)

-- a later parameter repeats a name
abbrev pub IsParamRepeat : Site → Entry → Type 0
IsParamRepeat s = Among (signatures_at s) (λ g. Repeated (λ p. lower p.name) (λ p. broken_at ParamRepeat g.spot) g.part.params)

-- ---- enums and structs

-- an enum of flags
abbrev pub is_flags : Declaration → Bool
is_flags (Enum name version flags cases) = flags
is_flags _ = false

-- Int32, or UInt32 with flags
abbrev pub fits : Bool → ℤ → Bool
fits true value = int_le (pos 0) value && int_le value (pos (2 ^ 32 - 1))
fits false value = int_le (negsuc (2 ^ 31 - 1)) value && int_le value (pos (2 ^ 31 - 1))

-- a value that does not fit
abbrev pub IsEnumRange : Site → Entry → Type 0
IsEnumRange s = Among (cases_at s) (λ c. If (not (fits (is_flags s.decl) c.part.value)) EnumRange c.spot)

-- a struct without fields
abbrev pub is_bare_struct : Declaration → Bool
is_bare_struct (Struct name version []) = true
is_bare_struct _ = false

-- no field
abbrev pub IsStructEmpty : Site → Entry → Type 0
IsStructEmpty s = If (is_bare_struct s.decl) StructEmpty (spot_of s)

-- ---- members of one interface

-- a method's name with how many parameters it has
abbrev pub overload_of : Standing Member → Option (Standing (List ℕ))
overload_of m = option_map (λ sig. record { part = length sig.params ∷ lower (member_name m.part); spot = m.spot }) (signature_in m.part)

-- a later method repeats name and number of parameters
abbrev pub IsOverloadArity : Site → Entry → Type 0
IsOverloadArity s = Repeated (λ o. o.part) (λ o. broken_at OverloadArity o.spot) (filter_map overload_of (members_at s))

-- a method, and no property or event
abbrev pub is_method : Member → Bool
is_method m = is_some (signature_in m)

-- the two have exactly one name
abbrev pub same_name : Member → Member → Bool
same_name a b = bytes_eq (member_name a) (member_name b)

-- the two have one name but for case
abbrev pub same_lower : Member → Member → Bool
same_lower a b = bytes_eq (lower (member_name a)) (lower (member_name b))

-- one of the names is this one but for case
abbrev pub has_name : List (List ℕ) → List ℕ → Bool
has_name names name = list_any (λ n. bytes_eq (lower n) (lower name)) names

-- the two lists share a name but for case
abbrev pub shares : List (List ℕ) → List (List ℕ) → Bool
shares names others = list_any (has_name others) names

-- two members of one exact name that aren't both methods
abbrev pub mixes : Member → Member → Bool
mixes a b = same_name a b && not (is_method a && is_method b)

-- two names that differ in ASCII case alone
abbrev pub differs_in_case : Member → Member → Bool
differs_in_case a b = same_lower a b && not (same_name a b)

-- two members share an ABI name
abbrev pub shares_abi : Member → Member → Bool
shares_abi a b = shares (abi_names a) (abi_names b)

-- a member's name is an ABI name of a member of another name
abbrev pub takes_abi : Member → Member → Bool
takes_abi a b = not (same_lower a b) && (has_name (abi_names b) (member_name a) || has_name (abi_names a) (member_name b))

-- the member at i and another one
pub record Pair (test : Member → Member → Bool) (members : List (Standing Member)) (i : ℕ) (a : Standing Member) : Type 0 where
  pub j : ℕ
  pub b : Standing Member
  pub at : slice_get members j ≡ Some b
  pub apart : i ≢ j
  pub so : IsTrue (test a.part b.part)

-- each member of which another one stands in this relation to it
abbrev pub EachPaired : Code → (Member → Member → Bool) → List (Standing Member) → Entry → Type 0
EachPaired code test members = Below (length members) (λ i. At members (λ a. Only (Pair test members i a) (broken_at code a.spot)) i)

-- members of one exact name are not all methods
abbrev pub IsOverloadKind : Site → Entry → Type 0
IsOverloadKind s = EachPaired OverloadKind mixes (members_at s)

-- two names differ in ASCII case alone
abbrev pub IsMemberCase : Site → Entry → Type 0
IsMemberCase s = EachPaired MemberCase differs_in_case (members_at s)

-- two members share an ABI name, or one's name is an ABI name of the other
abbrev pub IsAccessorClash : Site → Entry → Type 0
IsAccessorClash s = EachPaired AccessorClash (λ a b. shares_abi a b || takes_abi a b) (members_at s)

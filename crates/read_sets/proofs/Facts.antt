-- Declarations that images state are what rules and limits are asked of, and what rows state.
use Rattle.std.proofs.Common.{ℕ, zero, suc, ◌≤◌, Bool, true, false, ◌&&◌, IsTrue, List, [], ◌∷◌, ◌++◌, Option, Some, None, get_or, refl, arith}
use Rattle.std.proofs.Common.{map as map_list}
use Rattle.std.specs.Prelude.{max, option_map}
use Rattle.std.specs.List.{All, AllByRecursion, filter_map, flat_map}
use Rattle.std.proofs.lemmas.List.Elements.{All-nil, All-cons, All-head, All-tail, All-append, All-map, All-weaker}
use Rattle.ranked.specs.declared.place.Place.{Place}
use Rattle.winmd_sets.specs.Fits as fits
use Rattle.winmd_sets.specs.Fits.{IsPart, OwnerFits}
use Rattle.wr_base.specs.Trees.{UseTree, plain, value, reference, instance, UseTrees, no_uses, use_and, within, among, tree_of, decl_tree, field_tree, member_tree, param_tree, signature_tree}
use Rattle.wr_base.specs.declared.type_use.TypeUse.{TypeUse}
use Rattle.wr_base.specs.declared.declaration.Case.{Case}
use Rattle.wr_base.specs.declared.declaration.Field.{Field}
use Rattle.wr_base.specs.declared.declaration.Param.{Param}
use Rattle.wr_base.specs.declared.declaration.Signature.{Signature}
use Rattle.wr_base.specs.declared.declaration.Member.{Member}
use Rattle.wr_base.specs.declared.declaration.Member.TheVariants.{Method, Property, Event}
use Rattle.wr_base.specs.declared.declaration.Declaration.{Declaration}
use Rattle.wr_base.specs.declared.declaration.Declaration.TheVariants.{Enum, Struct, Delegate, Interface, Class}
use Rattle.wr_base.specs.declared.places.DeclPlaces.{DeclPlaces}
use Rattle.wr_rules.specs.Accepted.{depth, deepest, has_arguments, have_arguments, IsName, IsAbiName, IsUse, abi_of, IsProper}
use Rattle.wr_rules.specs.Members.{Standing, standing, members_at, fields_at, member_name, signature_in}
use Rattle.wr_rules.specs.MemberRules.{with_spot}
use Rattle.wr_rules.specs.Sites.{Spot, Site, spot_of, part_spot}
use Rattle.wr_rules.specs.Uses.{Role, field, passed, event, listed, Used, used_at, name_at, optional, signature_uses, uses_by, member_uses, uses_at}
use Rattle.writable_sets.specs.Stated.{NotGuid}
use Rattle.read_sets.proofs.Read.{UseOf, UsesOf, UseRead, OptionRead, ParamRead, SignatureRead, FieldRead, MemberRead, IsRead}

-- a declaration that an image states
abbrev pub Imaged : Declaration → Type 0
Imaged d = IsRead (decl_tree d)

-- ---- uses

less_max : (a b n : ℕ) → a ≤ n → b ≤ n → max a b ≤ n
less_max a b n h g = omega (arith, h, g)

mutual
  depth_so : (n : ℕ) (u : UseTree) → UseOf fits.IsName n u → depth u ≤ n
  depth_so zero u h = absurd h
  depth_so (suc n) (plain base) h = omega arith
  depth_so (suc n) (value name) h = omega arith
  depth_so (suc n) (reference name) h = omega arith
  depth_so (suc n) (instance name us) h = omega (arith, deepest_so n us h.2)

  deepest_so : (n : ℕ) (us : UseTrees) → UsesOf fits.IsName n us → deepest us ≤ n
  deepest_so n no_uses h = omega arith
  deepest_so n (use_and u us) h = less_max (depth u) (deepest us) n (depth_so n u h.0) (deepest_so n us h.1)

both : (a b : Bool) → IsTrue a → IsTrue b → IsTrue (a && b)
both true b h g = g
both false b h g = h

mutual
  applied_so : (n : ℕ) (u : UseTree) → UseOf fits.IsName n u → IsTrue (has_arguments u)
  applied_so zero u h = absurd h
  applied_so (suc n) (plain base) h = refl
  applied_so (suc n) (value name) h = refl
  applied_so (suc n) (reference name) h = refl
  applied_so (suc n) (instance name no_uses) h = (let l = h.1 in absurd (omega (arith, l)))
  applied_so (suc n) (instance name (use_and u us)) h = both (has_arguments u) (have_arguments us) (applied_so n u h.2.0) (all_applied n us h.2.1)

  all_applied : (n : ℕ) (us : UseTrees) → UsesOf fits.IsName n us → IsTrue (have_arguments us)
  all_applied n no_uses h = refl
  all_applied n (use_and u us) h = both (has_arguments u) (have_arguments us) (applied_so n u h.0) (all_applied n us h.1)

mutual
  guid_so : (n : ℕ) (u : UseTree) → UseOf fits.IsName n u → All NotGuid (within u)
  guid_so zero u h = absurd h
  guid_so (suc n) (plain base) h = All-cons NotGuid (plain base) [] tt (All-nil NotGuid)
  guid_so (suc n) (value name) h = All-cons NotGuid (value name) [] h.1 (All-nil NotGuid)
  guid_so (suc n) (reference name) h = All-cons NotGuid (reference name) [] tt (All-nil NotGuid)
  guid_so (suc n) (instance name us) h = All-cons NotGuid (instance name us) (among us) tt (all_guid n us h.2)

  all_guid : (n : ℕ) (us : UseTrees) → UsesOf fits.IsName n us → All NotGuid (among us)
  all_guid n no_uses h = All-nil NotGuid
  all_guid n (use_and u us) h = All-append NotGuid (within u) (among us) (guid_so n u h.0) (all_guid n us h.1)

-- what rules ask of a use, and that no value in it is System.Guid
pub record UseFacts (u : UseTree) : Type 0 where
  pub used : IsUse u
  pub unguided : All NotGuid (within u)

use_facts : (u : UseTree) → UseRead u → UseFacts u
use_facts u h = record { used = record { shallow = depth_so 16 u h; applied = applied_so 16 u h }; unguided = guid_so 16 u h }

name_facts : (name : List ℕ) → UseFacts (reference name)
name_facts name = record { used = record { shallow = omega arith; applied = refl }; unguided = All-cons NotGuid (reference name) [] tt (All-nil NotGuid) }

-- ---- lists

pub all_from : {X Y : Type 0} (P : Y → Type 0) (f : X → Y) (xs : List X) → AllByRecursion P (map_list f xs) → All (λ x. P (f x)) xs
all_from P f [] h = All-nil (λ x. P (f x))
all_from P f (x ∷ xs) h = All-cons (λ y. P (f y)) x xs h.0 (all_from P f xs h.1)

same_all : {X : Type 0} (P : X → Type 0) (xs : List X) → AllByRecursion P xs → All P xs
same_all P [] h = All-nil P
same_all P (x ∷ xs) h = All-cons P x xs h.0 (same_all P xs h.1)

flat_within : {X Y : Type 0} (P : Y → Type 0) (f : X → List Y) (xs : List X) → All (λ x. All P (f x)) xs → All P (flat_map f xs)
flat_within P f [] h = All-nil P
flat_within P f (x ∷ xs) h = All-append P (f x) (flat_map f xs) (All-head (λ y. All P (f y)) x xs h) (flat_within P f xs (All-tail (λ y. All P (f y)) x xs h))

stands : {X : Type 0} (Q : X → Type 0) (s : Site) (name : X → List ℕ) (xs : List X) (ps : List Place) → All Q xs → All (λ (x : Standing X). Q x.part) (standing s name xs ps)
stands {X} Q s name [] ps h = All-nil (λ (x : Standing X). Q x.part)
stands {X} Q s name (x ∷ xs) [] h = All-nil (λ (x : Standing X). Q x.part)
stands {X} Q s name (x ∷ xs) (p ∷ ps) h =
    All-cons (λ (x : Standing X). Q x.part) (record { part = x; spot = part_spot s p (name x) }) (standing s name xs ps) (All-head Q x xs h) (stands Q s name xs ps (All-tail Q x xs h))

-- ---- uses where they stand

abbrev UsedFacts : Used → Type 0
UsedFacts u = UseFacts u.use_

abbrev OwnUse : TypeUse → Type 0
OwnUse u = UseRead (tree_of u)

optional_used : (role : Role) (spot : Spot) (o : Option TypeUse) → OptionRead (option_map tree_of o) → All UsedFacts (optional role spot o)
optional_used role spot None h = All-nil UsedFacts
optional_used role spot (Some u) h = All-cons UsedFacts (used_at role spot u) [] (use_facts (tree_of u) h) (All-nil UsedFacts)

list_used : (spot : Spot) (us : List TypeUse) → All OwnUse us → All UsedFacts (map_list (used_at listed spot) us)
list_used spot us h = All-map UsedFacts (used_at listed spot) us (λ k d l. use_facts (tree_of (get_or us k d)) (h k d l))

names_used : (spot : Spot) (names : List (List ℕ)) → All UsedFacts (map_list (name_at spot) names)
names_used spot names = All-map UsedFacts (name_at spot) names (λ k d l. name_facts (get_or names k d))

abbrev ParamUse : Param → Type 0
ParamUse p = ParamRead (param_tree p)

signature_used : (spot : Spot) (s : Signature) → SignatureRead (signature_tree s) → All UsedFacts (signature_uses spot s)
signature_used spot s h =
    All-append UsedFacts (map_list (λ (p : Param). used_at passed spot p.ty) s.params) (optional passed spot s.result)
    (All-map UsedFacts (λ (p : Param). used_at passed spot p.ty) s.params (λ k d l. use_facts (tree_of (get_or s.params k d).ty) (all_from ParamRead param_tree s.params h.params k d l).kind))
    (optional_used passed spot s.result h.result)

abbrev MemberFacts : Member → Type 0
MemberFacts m = MemberRead (member_tree m)

member_used : (spot : Spot) (m : Member) → MemberFacts m → All UsedFacts (uses_by spot m)
member_used spot (Method name abi sig) h = signature_used spot sig h.2
member_used spot (Property name ty put) h = All-cons UsedFacts (used_at passed spot ty) [] (use_facts (tree_of ty) h.1) (All-nil UsedFacts)
member_used spot (Event name ty) h = All-cons UsedFacts (used_at event spot ty) [] (use_facts (tree_of ty) h.1) (All-nil UsedFacts)

pub uses_so : (d : Declaration) (p : DeclPlaces) → Imaged d → All UsedFacts (uses_at (record { decl = d; places = p }))
uses_so (Enum name version flags cases) p h = All-nil UsedFacts
uses_so (Struct name version fields) p h =
    All-map UsedFacts (λ (f : Standing Field). used_at field f.spot f.part.ty) (fields_at site)
    (stands (λ (f : Field). UseFacts (tree_of f.ty)) site (λ f. f.name) fields p.parts (λ k d l. use_facts (tree_of (get_or fields k d).ty) (all_from FieldRead field_tree fields h.parts k d l).kind))
  where
    site : Site
    site = record { decl = Struct name version fields; places = p }
uses_so (Delegate name version id invoke) p h = signature_used (spot_of (record { decl = Delegate name version id invoke; places = p })) invoke h.parts
uses_so (Interface name version id owner requires_ members) p h =
    All-append UsedFacts (map_list (used_at listed (spot_of site)) requires_) (flat_map member_uses (members_at site))
    (list_used (spot_of site) requires_ (all_from UseRead tree_of requires_ h.parts.1.uses))
    (flat_within UsedFacts member_uses (members_at site) (λ k e l. member_used (get_or (members_at site) k e).spot (get_or (members_at site) k e).part
    (stands MemberFacts site member_name members p.parts (all_from MemberRead member_tree members h.parts.2) k e l)))
  where
    site : Site
    site = record { decl = Interface name version id owner requires_ members; places = p }
uses_so (Class name version fixed default has direct factories statics) p h =
    All-append UsedFacts (optional listed spot default ++ map_list (used_at listed spot) has ++ map_list (name_at spot) factories) (map_list (name_at spot) statics)
    (All-append UsedFacts (optional listed spot default ++ map_list (used_at listed spot) has) (map_list (name_at spot) factories)
    (All-append UsedFacts (optional listed spot default) (map_list (used_at listed spot) has)
    (optional_used listed spot default h.parts.0)
    (list_used spot has (all_from UseRead tree_of has h.parts.1.uses)))
    (names_used spot factories))
    (names_used spot statics)
  where
    spot : Spot
    spot = spot_of (record { decl = Class name version fixed default has direct factories statics; places = p })

-- ---- names of parts

name_as : (text : List ℕ) → IsPart 255 text → IsName text
name_as text h = record { identifier = h.identifier; short = h.short }

abbrev HasNames : Standing Signature → Type 0
HasNames g = All (λ (p : Param). IsName p.name) g.part.params

params_as : (sig : Signature) → SignatureRead (signature_tree sig) → All (λ (p : Param). IsName p.name) sig.params
params_as sig h k d l = name_as (get_or sig.params k d).name (all_from ParamRead param_tree sig.params h.params k d l).named

abbrev signed_at : Standing Member → Option (Standing Signature)
signed_at m = with_spot m.spot (signature_in m.part)

signed : (spot : Spot) (m : Member) (ms : List (Standing Member)) → MemberFacts m → All HasNames (filter_map signed_at ms) → All HasNames (filter_map signed_at (record { part = m; spot = spot } ∷ ms))
signed spot (Method name abi sig) ms h r = All-cons HasNames (record { part = sig; spot = spot }) (filter_map signed_at ms) (params_as sig h.2) r
signed spot (Property name ty put) ms h r = r
signed spot (Event name ty) ms h r = r

all_signed : (ms : List (Standing Member)) → All (λ (m : Standing Member). MemberFacts m.part) ms → All HasNames (filter_map signed_at ms)
all_signed [] h = All-nil HasNames
all_signed (m ∷ ms) h =
    signed m.spot m.part ms (All-head (λ (m : Standing Member). MemberFacts m.part) m ms h) (all_signed ms (All-tail (λ (m : Standing Member). MemberFacts m.part) m ms h))

own_name : (m : Member) → MemberFacts m → IsName (member_name m)
own_name (Method name abi sig) h = name_as name h.0
own_name (Property name ty put) h = name_as name h.0
own_name (Event name ty) h = name_as name h.0

abi_as : (text : List ℕ) (n : ℕ) → n ≤ 511 → IsPart n text → IsAbiName text
abi_as text n l h = record { identifier = h.identifier; short = omega (arith, l, h.short) }

own_abi : (m : Member) → MemberFacts m → IsAbiName (abi_of m)
own_abi (Method name abi sig) h = abi_as abi 511 (omega arith) h.1
own_abi (Property name ty put) h = abi_as name 255 (omega arith) h.0
own_abi (Event name ty) h = abi_as name 255 (omega arith) h.0

abbrev CaseFacts : Case → Type 0
CaseFacts c = IsName c.name

-- what rules ask of a declaration, wherever it stands
pub proper_so : (d : Declaration) (p : DeclPlaces) → Imaged d → IsProper (record { decl = d; places = p })
proper_so (Enum name version flags cases) p h = record {
  cases = All-weaker (λ (c : Case). IsPart 255 c.name) CaseFacts (λ c g. name_as c.name g) cases (same_all (λ (c : Case). IsPart 255 c.name) cases h.parts);
  fields = All-nil (λ (f : Field). IsName f.name);
  members = All-nil (λ m. IsName (member_name m));
  abis = All-nil (λ m. IsAbiName (abi_of m));
  params = All-nil HasNames;
  uses = All-nil (λ (u : Used). IsUse u.use_);
}
proper_so (Struct name version fields) p h = record {
  cases = All-nil CaseFacts;
  fields = λ k d l. name_as (get_or fields k d).name (all_from FieldRead field_tree fields h.parts k d l).named;
  members = All-nil (λ m. IsName (member_name m));
  abis = All-nil (λ m. IsAbiName (abi_of m));
  params = All-nil HasNames;
  uses = λ k d l. (uses_so (Struct name version fields) p h k d l).used;
}
proper_so (Delegate name version id invoke) p h = record {
  cases = All-nil CaseFacts;
  fields = All-nil (λ (f : Field). IsName f.name);
  members = All-nil (λ m. IsName (member_name m));
  abis = All-nil (λ m. IsAbiName (abi_of m));
  params = All-cons HasNames (record { part = invoke; spot = spot_of (record { decl = Delegate name version id invoke; places = p }) }) [] (params_as invoke h.parts) (All-nil HasNames);
  uses = λ k d l. (uses_so (Delegate name version id invoke) p h k d l).used;
}
proper_so (Interface name version id owner requires_ members) p h = record {
  cases = All-nil CaseFacts;
  fields = All-nil (λ (f : Field). IsName f.name);
  members = All-weaker MemberFacts (λ m. IsName (member_name m)) own_name members (all_from MemberRead member_tree members h.parts.2);
  abis = All-weaker MemberFacts (λ m. IsAbiName (abi_of m)) own_abi members (all_from MemberRead member_tree members h.parts.2);
  params = all_signed (members_at site) (stands MemberFacts site member_name members p.parts (all_from MemberRead member_tree members h.parts.2));
  uses = λ k d l. (uses_so (Interface name version id owner requires_ members) p h k d l).used;
}
  where
    site : Site
    site = record { decl = Interface name version id owner requires_ members; places = p }
proper_so (Class name version fixed default has direct factories statics) p h = record {
  cases = All-nil CaseFacts;
  fields = All-nil (λ (f : Field). IsName f.name);
  members = All-nil (λ m. IsName (member_name m));
  abis = All-nil (λ m. IsAbiName (abi_of m));
  params = All-nil HasNames;
  uses = λ k d l. (uses_so (Class name version fixed default has direct factories statics) p h k d l).used;
}

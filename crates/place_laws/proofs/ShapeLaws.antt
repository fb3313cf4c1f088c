-- Sites of one declaration have the same parts, signatures and uses, wherever they stand.
use Rattle.std.proofs.Common.{◌≡◌, ℕ, List, [], ◌∷◌, ◌++◌, map, length, Option, Some, None, refl, sym, ap, subst, ◌∙◌, arith}
use Rattle.std.specs.List.{flat_map, filter_map}
use Rattle.std.proofs.lemmas.List.{map-append}
use Rattle.ranked.specs.Entries.{Entry}
use Rattle.ranked.specs.declared.place.Place.{Place}
use Rattle.wr_base.specs.declared.declaration.Signature.{Signature}
use Rattle.wr_base.specs.declared.declaration.Param.{Param}
use Rattle.wr_base.specs.declared.declaration.Field.{Field}
use Rattle.wr_base.specs.declared.declaration.Case.{Case}
use Rattle.wr_base.specs.declared.declaration.Member.{Member}
use Rattle.wr_base.specs.declared.declaration.Member.TheVariants.{Method, Property, Event}
use Rattle.wr_base.specs.declared.declaration.Declaration.{Declaration}
use Rattle.wr_base.specs.declared.declaration.Declaration.TheVariants.{Enum, Struct, Delegate, Interface, Class}
use Rattle.wr_base.specs.declared.places.DeclPlaces.{DeclPlaces}
use Rattle.wr_base.specs.declared.type_use.TypeUse.{TypeUse}
use Rattle.wr_base.specs.Trees.{tree_of, reference}
use Rattle.wr_rules.specs.Sites.{Spot, Site, spot_of}
use Rattle.wr_rules.specs.Members.{Standing, standing, members_at, members_of, member_name, cases_at, cases_of, fields_at, fields_of, signature_in}
use Rattle.wr_rules.specs.MemberRules.{with_spot, signatures_at}
use Rattle.wr_rules.specs.Uses.{Role, field, passed, event, listed, by_name, Used, used_at, name_at, optional, signature_uses, uses_by, member_uses, uses_at}
use Rattle.place_laws.specs.Moves.{Moves}
use Rattle.place_laws.specs.Shapes.{Shape, shape, Bare, bare}

-- a declaration at these places
abbrev pub at_places : Declaration → DeclPlaces → Site
at_places d p = record { decl = d; places = p }

-- what holds of one declaration at any two places that are as many holds of two sites of one shape
pub site_moved : (A B : Site → Entry → Type 0) → ((d : Declaration) (p q : DeclPlaces) → length p.parts ≡ length q.parts → Moves (A (at_places d p)) (B (at_places d q))) → (s t : Site) → shape s ≡ shape t → Moves (A s) (B t)
site_moved A B each s t e = subst (λ d. Moves (A s) (B (at_places d t.places))) (ap (λ (x : Shape). x.decl) e) (each s.decl s.places t.places (ap (λ (x : Shape). x.parts) e))

-- ---- parts

pub parts_alike : {X : Type 0} (s t : Site) (name : X → List ℕ) (xs : List X) (ps qs : List Place) → length ps ≡ length qs
    → map (λ (x : Standing X). x.part) (standing s name xs ps) ≡ map (λ (x : Standing X). x.part) (standing t name xs qs)
parts_alike s t name [] ps qs e = refl
parts_alike s t name (x ∷ xs) [] [] e = refl
parts_alike s t name (x ∷ xs) [] (q ∷ qs) e = cc
parts_alike s t name (x ∷ xs) (p ∷ ps) [] e = cc
parts_alike s t name (x ∷ xs) (p ∷ ps) (q ∷ qs) e = ap (λ ys. x ∷ ys) (parts_alike s t name xs ps qs (omega (arith, e)))

abbrev pub member_part : Standing Member → Member
member_part m = m.part

abbrev pub signature_part : Standing Signature → Signature
signature_part g = g.part

pub members_alike : (d : Declaration) (p q : DeclPlaces) → length p.parts ≡ length q.parts → map member_part (members_at (at_places d p)) ≡ map member_part (members_at (at_places d q))
members_alike d p q e = parts_alike (at_places d p) (at_places d q) member_name (members_of d) p.parts q.parts e

pub cases_alike : (d : Declaration) (p q : DeclPlaces) → length p.parts ≡ length q.parts → map (λ (c : Standing Case). c.part) (cases_at (at_places d p)) ≡ map (λ (c : Standing Case). c.part) (cases_at (at_places d q))
cases_alike d p q e = parts_alike (at_places d p) (at_places d q) (λ c. c.name) (cases_of d) p.parts q.parts e

pub fields_alike : (d : Declaration) (p q : DeclPlaces) → length p.parts ≡ length q.parts → map (λ (c : Standing Field). c.part) (fields_at (at_places d p)) ≡ map (λ (c : Standing Field). c.part) (fields_at (at_places d q))
fields_alike d p q e = parts_alike (at_places d p) (at_places d q) (λ f. f.name) (fields_of d) p.parts q.parts e

-- ---- images of images

module _ {X S Z : Type 0} (f : X → S) (g : X → Z) (h : S → Z) (through : (x : X) → g x ≡ h (f x)) where
  pub by_image : (xs : List X) → map g xs ≡ map h (map f xs)
  by_image [] = refl
  by_image (x ∷ xs) = ap (λ z. z ∷ map g xs) (through x) ∙ ap (λ zs. h (f x) ∷ zs) (by_image xs)

  pub images_alike : (xs ys : List X) → map f xs ≡ map f ys → map g xs ≡ map g ys
  images_alike xs ys e = by_image xs ∙ ap (map h) e ∙ sym (by_image ys)

-- the same, where each gives a list
module _ {X S U Z : Type 0} (f : X → S) (view : U → Z) (g : X → List U) (h : S → List Z) (through : (x : X) → map view (g x) ≡ h (f x)) where
  pub flat_by_image : (xs : List X) → map view (flat_map g xs) ≡ flat_map h (map f xs)
  flat_by_image [] = refl
  flat_by_image (x ∷ xs) = map-append view (g x) (flat_map g xs) ∙ ap (λ z. z ++ map view (flat_map g xs)) (through x) ∙ ap (λ zs. h (f x) ++ zs) (flat_by_image xs)

  pub flats_alike : (xs ys : List X) → map f xs ≡ map f ys → map view (flat_map g xs) ≡ map view (flat_map g ys)
  flats_alike xs ys e = flat_by_image xs ∙ ap (flat_map h) e ∙ sym (flat_by_image ys)

-- ---- uses

abbrev bare_use : Role → TypeUse → Bare
bare_use role u = record { role = role; use_ = tree_of u }

bare_all : (role : Role) (spot : Spot) (us : List TypeUse) → map bare (map (used_at role spot) us) ≡ map (bare_use role) us
bare_all role spot [] = refl
bare_all role spot (u ∷ us) = ap (λ zs. bare_use role u ∷ zs) (bare_all role spot us)

bare_names : (spot : Spot) (ns : List (List ℕ)) → map bare (map (name_at spot) ns) ≡ map (λ n. record { role = by_name; use_ = reference n }) ns
bare_names spot [] = refl
bare_names spot (n ∷ ns) = ap (λ zs. record { role = by_name; use_ = reference n } ∷ zs) (bare_names spot ns)

bare_params : (spot : Spot) (ps : List Param) → map bare (map (λ (p : Param). used_at passed spot p.ty) ps) ≡ map (λ (p : Param). bare_use passed p.ty) ps
bare_params spot [] = refl
bare_params spot (p ∷ ps) = ap (λ zs. bare_use passed p.ty ∷ zs) (bare_params spot ps)

abbrev bare_optional : Role → Option TypeUse → List Bare
bare_optional role None = []
bare_optional role (Some u) = bare_use role u ∷ []

bare_one : (role : Role) (spot : Spot) (o : Option TypeUse) → map bare (optional role spot o) ≡ bare_optional role o
bare_one role spot None = refl
bare_one role spot (Some u) = refl

abbrev bare_signature : Signature → List Bare
bare_signature s = map (λ (p : Param). bare_use passed p.ty) s.params ++ bare_optional passed s.result

bare_in : (spot : Spot) (s : Signature) → map bare (signature_uses spot s) ≡ bare_signature s
bare_in spot s = map-append bare (map (λ (p : Param). used_at passed spot p.ty) s.params) (optional passed spot s.result)
    ∙ ap (λ z. z ++ map bare (optional passed spot s.result)) (bare_params spot s.params)
    ∙ ap (λ z. map (λ (p : Param). bare_use passed p.ty) s.params ++ z) (bare_one passed spot s.result)

abbrev bare_member : Member → List Bare
bare_member (Method name abi sig) = bare_signature sig
bare_member (Property name ty put) = bare_use passed ty ∷ []
bare_member (Event name ty) = bare_use event ty ∷ []

bare_by : (spot : Spot) (m : Member) → map bare (uses_by spot m) ≡ bare_member m
bare_by spot (Method name abi sig) = bare_in spot sig
bare_by spot (Property name ty put) = refl
bare_by spot (Event name ty) = refl

both_alike : (a b c d : List Used) → map bare a ≡ map bare c → map bare b ≡ map bare d → map bare (a ++ b) ≡ map bare (c ++ d)
both_alike a b c d e f = map-append bare a b ∙ ap (λ z. z ++ map bare b) e ∙ ap (λ z. map bare c ++ z) f ∙ sym (map-append bare c d)

pub uses_alike : (d : Declaration) (p q : DeclPlaces) → length p.parts ≡ length q.parts → map bare (uses_at (at_places d p)) ≡ map bare (uses_at (at_places d q))
uses_alike (Enum name version flags cases) p q e = refl
uses_alike (Struct name version fields) p q e =
    let d = Struct name version fields in
    let one : (x : Standing Field) → bare (used_at field x.spot x.part.ty) ≡ bare_use field x.part.ty = λ x. refl in
    let left = by_two (fields_at (at_places d p)) in
    let right = by_two (fields_at (at_places d q)) in
    left ∙ ap (map (λ (f : Field). bare_use field f.ty)) (fields_alike d p q e) ∙ sym right
  where
    by_two : (xs : List (Standing Field)) → map bare (map (λ (f : Standing Field). used_at field f.spot f.part.ty) xs) ≡ map (λ (f : Field). bare_use field f.ty) (map (λ (c : Standing Field). c.part) xs)
    by_two [] = refl
    by_two (x ∷ xs) = ap (λ zs. bare_use field x.part.ty ∷ zs) (by_two xs)
uses_alike (Delegate name version id invoke) p q e =
    let d = Delegate name version id invoke in bare_in (spot_of (at_places d p)) invoke ∙ sym (bare_in (spot_of (at_places d q)) invoke)
uses_alike (Interface name version id owner requires_ members) p q e =
    let d = Interface name version id owner requires_ members in
    let s = at_places d p in
    let t = at_places d q in
    both_alike (map (used_at listed (spot_of s)) requires_) (flat_map member_uses (members_at s)) (map (used_at listed (spot_of t)) requires_) (flat_map member_uses (members_at t))
    (bare_all listed (spot_of s) requires_ ∙ sym (bare_all listed (spot_of t) requires_))
    (flats_alike member_part bare member_uses bare_member (λ m. bare_by m.spot m.part) (members_at s) (members_at t) (members_alike d p q e))
uses_alike (Class name version fixed default has direct factories statics) p q e =
    let d = Class name version fixed default has direct factories statics in
    let s = spot_of (at_places d p) in
    let t = spot_of (at_places d q) in
    both_alike (optional listed s default ++ map (used_at listed s) has ++ map (name_at s) factories) (map (name_at s) statics) (optional listed t default ++ map (used_at listed t) has ++ map (name_at t) factories) (map (name_at t) statics)
    (both_alike (optional listed s default ++ map (used_at listed s) has) (map (name_at s) factories) (optional listed t default ++ map (used_at listed t) has) (map (name_at t) factories)
    (both_alike (optional listed s default) (map (used_at listed s) has) (optional listed t default) (map (used_at listed t) has)
    (bare_one listed s default ∙ sym (bare_one listed t default))
    (bare_all listed s has ∙ sym (bare_all listed t has)))
    (bare_names s factories ∙ sym (bare_names t factories)))
    (bare_names s statics ∙ sym (bare_names t statics))

-- ---- signatures

abbrev signatures_in : Member → List Signature
signatures_in (Method name abi sig) = sig ∷ []
signatures_in (Property name ty put) = []
signatures_in (Event name ty) = []

signatures_by : (ms : List (Standing Member)) → map signature_part (filter_map (λ (m : Standing Member). with_spot m.spot (signature_in m.part)) ms) ≡ flat_map signatures_in (map member_part ms)
signatures_by [] = refl
signatures_by (m ∷ ms) = elim m.part as (λ x. map signature_part (filter_map (λ (m : Standing Member). with_spot m.spot (signature_in m.part)) (record { part = x; spot = m.spot } ∷ ms)) ≡ flat_map signatures_in (x ∷ map member_part ms)) [
  | Method name abi sig ↦ ap (λ zs. sig ∷ zs) (signatures_by ms)
  | Property name ty put ↦ signatures_by ms
  | Event name ty ↦ signatures_by ms
]

pub signatures_alike : (d : Declaration) (p q : DeclPlaces) → length p.parts ≡ length q.parts → map signature_part (signatures_at (at_places d p)) ≡ map signature_part (signatures_at (at_places d q))
signatures_alike (Enum name version flags cases) p q e = refl
signatures_alike (Struct name version fields) p q e = refl
signatures_alike (Delegate name version id invoke) p q e = refl
signatures_alike (Interface name version id owner requires_ members) p q e =
    let d = Interface name version id owner requires_ members in
    signatures_by (members_at (at_places d p)) ∙ ap (flat_map signatures_in) (members_alike d p q e) ∙ sym (signatures_by (members_at (at_places d q)))
signatures_alike (Class name version fixed default has direct factories statics) p q e = refl

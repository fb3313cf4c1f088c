-- The rules on factories, wherever declarations stand.
use Rattle.std.proofs.Common.{◌≡◌, ℕ, Bool, true, false, not, List, [], ◌∷◌, ◌++◌, map, length, Option, Some, if◌then◌else◌, refl, sym, ap, subst, ◌∙◌}
use Rattle.std.specs.List.{filter_map, flat_map}
use Rattle.std.specs.Str.{bytes_eq}
use Rattle.std.proofs.lemmas.List.{map-append}
use Rattle.ranked.specs.First.{Among}
use Rattle.wr_base.specs.declared.code.Code.TheVariants.{ConstructorArity, FactoryShape}
use Rattle.wr_base.specs.declared.declaration.Declaration.{Declaration}
use Rattle.wr_base.specs.declared.declaration.Member.{Member}
use Rattle.wr_base.specs.declared.declaration.Member.TheVariants.{Method, Property, Event}
use Rattle.wr_base.specs.declared.places.DeclPlaces.{DeclPlaces}
use Rattle.wr_rules.specs.Kinds.{named}
use Rattle.wr_rules.specs.Sites.{Site, site_name, spot_of, broken_at, If}
use Rattle.wr_rules.specs.Members.{Standing, members_at, signature_in}
use Rattle.wr_rules.specs.FactoryRules.{factories_of, site_as, members_in, members_named, factory_members, count_at, IsConstructorArity, makes, is_found_interface, IsFactoryShape}
use Rattle.place_laws.specs.Moves.{Moves}
use Rattle.place_laws.specs.Shapes.{Shape, shape}
use Rattle.place_laws.proofs.MoveLaws.{or_moved, among_moved, repeated_moved, if_moved, first_same}
use Rattle.place_laws.proofs.ShapeLaws.{at_places, members_alike, member_part}

pub shape_members : (x y : Site) → shape x ≡ shape y → map member_part (members_at x) ≡ map member_part (members_at y)
shape_members x y e = subst (λ d. map member_part (members_at x) ≡ map member_part (members_at (at_places d y.places))) (ap (λ (s : Shape). s.decl) e)
    (members_alike x.decl x.places y.places (ap (λ (s : Shape). s.parts) e))

pub shape_name : (x y : Site) → shape x ≡ shape y → site_name x ≡ site_name y
shape_name x y e = ap (λ (s : Shape). site_name (at_places s.decl x.places)) e

one_or_other : (b c : Bool) → b ≡ c → (x y : Site) → shape x ≡ shape y → (o r : Option Site) → map member_part (members_in o) ≡ map member_part (members_in r)
    → map member_part (members_in (if b then Some x else o)) ≡ map member_part (members_in (if c then Some y else r))
one_or_other true true e x y s o r m = shape_members x y s
one_or_other false false e x y s o r m = m
one_or_other true false e x y s o r m = cc
one_or_other false true e x y s o r m = cc

found_alike : (name : List ℕ) (xs ys : List Site) → map shape xs ≡ map shape ys → map member_part (members_named xs name) ≡ map member_part (members_named ys name)
found_alike name [] [] e = refl
found_alike name [] (y ∷ ys) e = cc
found_alike name (x ∷ xs) [] e = cc
found_alike name (x ∷ xs) (y ∷ ys) e =
    let f = first_same shape shape x y xs ys e in
    one_or_other (bytes_eq (site_name x) name) (bytes_eq (site_name y) name) (ap (λ n. bytes_eq n name) (shape_name x y f.0)) x y f.0 (site_as xs name) (site_as ys name) (found_alike name xs ys f.1)

abbrev count_part : Standing (List ℕ) → List ℕ
count_part o = o.part

abbrev counts_of : Member → List (List ℕ)
counts_of (Method name abi sig) = (length sig.params ∷ []) ∷ []
counts_of (Property name ty put) = []
counts_of (Event name ty) = []

counts_by : (ms : List (Standing Member)) → map count_part (filter_map count_at ms) ≡ flat_map counts_of (map member_part ms)
counts_by [] = refl
counts_by (m ∷ ms) = elim m.part as (λ x. map count_part (filter_map count_at (record { part = x; spot = m.spot } ∷ ms)) ≡ flat_map counts_of (x ∷ map member_part ms)) [
  | Method name abi sig ↦ ap (λ zs. (length sig.params ∷ []) ∷ zs) (counts_by ms)
  | Property name ty put ↦ counts_by ms
  | Event name ty ↦ counts_by ms
]

module _ (types : List Declaration) (ss ts : List Site) (e : map shape ss ≡ map shape ts) where
  all_alike : (names : List (List ℕ)) → map member_part (flat_map (members_named ss) names) ≡ map member_part (flat_map (members_named ts) names)
  all_alike [] = refl
  all_alike (n ∷ ns) = map-append member_part (members_named ss n) (flat_map (members_named ss) ns)
      ∙ ap (λ z. z ++ map member_part (flat_map (members_named ss) ns)) (found_alike n ss ts e)
      ∙ ap (λ z. map member_part (members_named ts n) ++ z) (all_alike ns)
      ∙ sym (map-append member_part (members_named ts n) (flat_map (members_named ts) ns))

  module _ (d : Declaration) (p q : DeclPlaces) where
    pub constructor_arity_moved : Moves (IsConstructorArity ss (at_places d p)) (IsConstructorArity ts (at_places d q))
    constructor_arity_moved =
        let xs = factory_members ss (at_places d p) in
        let ys = factory_members ts (at_places d q) in
        repeated_moved count_part count_part (λ o. broken_at ConstructorArity o.spot) (λ o. broken_at ConstructorArity o.spot) (filter_map count_at xs) (filter_map count_at ys)
        (counts_by xs ∙ ap (flat_map counts_of) (all_alike (factories_of d)) ∙ sym (counts_by ys))

    pub factory_shape_moved : Moves (IsFactoryShape types ss (at_places d p)) (IsFactoryShape types ts (at_places d q))
    factory_shape_moved =
        let s = at_places d p in
        let t = at_places d q in
        or_moved (Among (factory_members ss s) (λ m. If (not (makes (site_name s) (signature_in m.part))) FactoryShape m.spot)) (Among (factories_of d) (λ name. If (is_found_interface (named types name 0)) FactoryShape (spot_of s)))
        (Among (factory_members ts t) (λ m. If (not (makes (site_name t) (signature_in m.part))) FactoryShape m.spot)) (Among (factories_of d) (λ name. If (is_found_interface (named types name 0)) FactoryShape (spot_of t)))
        (among_moved member_part member_part (factory_members ss s) (factory_members ts t) (λ m. If (not (makes (site_name s) (signature_in m.part))) FactoryShape m.spot) (λ m. If (not (makes (site_name t) (signature_in m.part))) FactoryShape m.spot) (all_alike (factories_of d))
        (λ x y i. if_moved (not (makes (site_name s) (signature_in x.part))) (not (makes (site_name t) (signature_in y.part))) FactoryShape x.spot y.spot (ap (λ (m : Member). not (makes (site_name s) (signature_in m))) i)))
        (among_moved (λ n. n) (λ n. n) (factories_of d) (factories_of d) (λ name. If (is_found_interface (named types name 0)) FactoryShape (spot_of s)) (λ name. If (is_found_interface (named types name 0)) FactoryShape (spot_of t)) refl
        (λ x y i. if_moved (is_found_interface (named types x 0)) (is_found_interface (named types y 0)) FactoryShape (spot_of s) (spot_of t) (ap (λ n. is_found_interface (named types n 0)) i)))

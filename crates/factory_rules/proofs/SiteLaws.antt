-- The site of a full name, by its place in the set.
use Rattle.std.proofs.Common.{◌≡◌, ◌≤◌, ℕ, zero, suc, Bool, true, false, cond, List, [], ◌∷◌, length, map, Option, Some, None, slice_get, refl, sym, ap, ◌∙◌, arith}
use Rattle.std.specs.Option.{option_map, option_and_then}
use Rattle.std.specs.Str.{bytes_eq}
use Rattle.std.proofs.lemmas.Option.{none-some}
use Rattle.wr_base.specs.Declarations.{name_of, declared_as, IsInOrder}
use Rattle.wr_base.specs.declared.declaration.Declaration.{Declaration}
use Rattle.wr_base.specs.declared.places.DeclPlaces.{DeclPlaces}
use Rattle.wr_rules.specs.Sites.{Site, sites_of}
use Rattle.wr_rules.specs.FactoryRules.{site_as}
use Rattle.struct_cycles.specs.Places.{place_in}
use Rattle.struct_cycles.proofs.PlaceLaws.{place_is}

pub past_places : (types : List Declaration) (places : List DeclPlaces) (n : ℕ) → length places ≤ n → slice_get (sites_of types places) n ≡ None
past_places [] places n l = refl
past_places (d ∷ ds) [] n l = refl
past_places (d ∷ ds) (p ∷ ps) zero l = absurd (omega (arith, l))
past_places (d ∷ ds) (p ∷ ps) (suc n) l = past_places ds ps n (omega (arith, l))

moved : (d : Declaration) (p : DeclPlaces) (ds : List Declaration) (ps : List DeclPlaces) (o : Option ℕ) → option_and_then (λ i. slice_get (sites_of ds ps) i) o ≡ option_and_then (λ i. slice_get (sites_of (d ∷ ds) (p ∷ ps)) i) (option_map suc o)
moved d p ds ps None = refl
moved d p ds ps (Some i) = refl

nowhere : (o : Option ℕ) → option_and_then (λ i. slice_get {X = Site} [] i) o ≡ None
nowhere None = refl
nowhere (Some i) = refl

site_by_place : (types : List Declaration) (places : List DeclPlaces) (name : List ℕ) → site_as (sites_of types places) name ≡ option_and_then (λ i. slice_get (sites_of types places) i) (place_in types name)
site_by_place [] places name = refl
site_by_place (d ∷ ds) [] name = sym (nowhere (place_in (d ∷ ds) name))
site_by_place (d ∷ ds) (p ∷ ps) name = elim (bytes_eq (name_of d) name) as (λ b. cond b (Some (record { decl = d; places = p })) (site_as (sites_of ds ps) name) ≡ option_and_then (λ i. slice_get (sites_of (d ∷ ds) (p ∷ ps)) i) (cond b (Some 0) (option_map suc (place_in ds name)))) [
  | true ↦ refl
  | false ↦ site_by_place ds ps name ∙ moved d p ds ps (place_in ds name)
]

pub found_site : (types : List Declaration) (places : List DeclPlaces) (name : List ℕ) (i : ℕ) → IsInOrder types → slice_get (map name_of types) i ≡ Some name → slice_get (sites_of types places) i ≡ site_as (sites_of types places) name
found_site types places name i o e = ap (λ k. option_and_then (λ j. slice_get (sites_of types places) j) k) (sym (place_is types i name o e)) ∙ sym (site_by_place types places name)

pub no_site : (types : List Declaration) (places : List DeclPlaces) (name : List ℕ) → declared_as types name ≡ None → site_as (sites_of types places) name ≡ None
no_site [] places name e = refl
no_site (d ∷ ds) [] name e = refl
no_site (d ∷ ds) (p ∷ ps) name e = by_test (bytes_eq (name_of d) name) refl (λ h. no_site ds ps name h)
  where
    by_test : (b : Bool) → bytes_eq (name_of d) name ≡ b → (declared_as ds name ≡ None → site_as (sites_of ds ps) name ≡ None) → site_as (sites_of (d ∷ ds) (p ∷ ps)) name ≡ None
    by_test true h rest = absurd (none-some d (sym e ∙ ap (λ b. cond b (Some d) (declared_as ds name)) h))
    by_test false h rest = ap (λ b. cond b (Some (record { decl = d; places = p })) (site_as (sites_of ds ps) name)) h ∙ rest (sym (ap (λ b. cond b (Some d) (declared_as ds name)) h) ∙ e)

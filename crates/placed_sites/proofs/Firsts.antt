-- First entries at declarations and parts with their places.
use Rattle.std.proofs.Common.{◌≡◌, ◌≤◌, ℕ, zero, suc, Bool, true, false, List, [], ◌∷◌, Option, Some, Result, Ok, Err, IfOk, length, slice_get, refl, sym, ap, subst, ◌∙◌, arith}
use Rattle.std.proofs.lemmas.Option.{none-some, same_Some}
use Rattle.ranked.specs.Entries.{Entry, UpTo}
use Rattle.ranked.specs.First.{IsFirst}
use Rattle.ranked.proofs.FirstLaws.{itself}
use Rattle.wr_base.specs.declared.code.Code.{Code}
use Rattle.wr_base.specs.declared.declaration.Declaration.{Declaration}
use Rattle.wr_base.specs.declared.places.DeclPlaces.{DeclPlaces}
use Rattle.wr_rules.specs.Sites.{Spot, sites_of, broken_at, If}
use Rattle.placed_sites.specs.Views.{give}

first_if : (test : Bool) (code : Code) (spot : Spot) → IsFirst (If test code spot) (give test (broken_at code spot))
unfolding IsFirst If
first_if true code spot = record { stands = refl; least = λ other h. subst (UpTo (broken_at code spot)) (same_Some (broken_at code spot) other h) (itself (broken_at code spot)) }
first_if false code spot = λ e h. none-some e h

pub is_first : (test : Bool) (code : Code) (spot : Spot) (a : Option Entry) → a ≡ give test (broken_at code spot) → IsFirst (If test code spot) a
is_first test code spot a e = subst (IsFirst (If test code spot)) (sym e) (first_if test code spot)

pub first_ok : {E : Type 0} (r : Result (Option Entry) E) (test : Bool) (code : Code) (spot : Spot) → IfOk r (λ a. a ≡ give test (broken_at code spot)) → IfOk r (IsFirst (If test code spot))
first_ok (Ok a) test code spot h = is_first test code spot a h
first_ok (Err e) test code spot h = tt

pub site_at : (types : List Declaration) (places : List DeclPlaces) (i : ℕ) (d : Declaration) (p : DeclPlaces) → slice_get types i ≡ Some d → slice_get places i ≡ Some p → slice_get (sites_of types places) i ≡ Some (record { decl = d; places = p })
site_at [] places i d p e f = absurd (none-some d e)
site_at (x ∷ xs) [] i d p e f = absurd (none-some p f)
site_at (x ∷ xs) (y ∷ ys) zero d p e f = ap (λ (z : Declaration). Some (record { decl = z; places = y })) (same_Some x d e) ∙ ap (λ (z : DeclPlaces). Some (record { decl = d; places = z })) (same_Some y p f)
site_at (x ∷ xs) (y ∷ ys) (suc i) d p e f = site_at xs ys i d p e f

pub sites_by_types : (types : List Declaration) (places : List DeclPlaces) → length types ≤ length places → length (sites_of types places) ≡ length types
sites_by_types [] places e = refl
sites_by_types (x ∷ xs) [] e = absurd (omega (arith, e))
sites_by_types (x ∷ xs) (y ∷ ys) e = let h = sites_by_types xs ys (omega (arith, e)) in omega (arith, h)

pub sites_by_places : (types : List Declaration) (places : List DeclPlaces) → length places ≤ length types → length (sites_of types places) ≡ length places
sites_by_places [] [] e = refl
sites_by_places [] (y ∷ ys) e = absurd (omega (arith, e))
sites_by_places (x ∷ xs) [] e = refl
sites_by_places (x ∷ xs) (y ∷ ys) e = let h = sites_by_places xs ys (omega (arith, e)) in omega (arith, h)

-- a refusal by a test at a spot, where both are known by other names
pub refused : {E : Type 0} (r : Result (Option Entry) E) (told test : Bool) (code : Code) (at spot : Spot) → told ≡ test → at ≡ spot → IfOk r (λ a. a ≡ give told (broken_at code at))
    → IfOk r (IsFirst (If test code spot))
refused r told test code at spot e f h =
    subst (λ (s : Spot). IfOk r (IsFirst (If test code s))) f (subst (λ (b : Bool). IfOk r (IsFirst (If b code at))) e (first_ok r told code at h))

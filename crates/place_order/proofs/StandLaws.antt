-- Stands and their keys.
use Rattle.std.proofs.Common.{◌≡◌, ◌<◌, ◌+◌, ℕ, zero, suc, List, [], ◌∷◌, ◌++◌, Some, length, take, get_or, slice_get, refl, sym, ap, ◌∙◌, arith}
use Rattle.std.specs.declared.cmp.Ordering.{Ordering}
use Rattle.std.specs.declared.cmp.Ordering.TheVariants.{Less, Equal, Greater}
use Rattle.std.specs.Ordering.{nat_cmp, ordering_then}
use Rattle.std.specs.Cmp.Lexicographic.{slice_cmp}
use Rattle.std.proofs.lemmas.List.{take_more, take_all}
use Rattle.std.proofs.lemmas.Option.{same_Some, none-some}
use Rattle.wr_rules.specs.Sites.{Site}
use Rattle.place_order.specs.declared.stands.Stand.{Stand}
use Rattle.place_order.specs.Stands.{key, stands_from}

three : (a b c : Ordering) → ordering_then (ordering_then a b) c ≡ ordering_then a (ordering_then b (ordering_then c Equal))
three Less b c = refl
three Greater b c = refl
three Equal Less c = refl
three Equal Greater c = refl
three Equal Equal Less = refl
three Equal Equal Equal = refl
three Equal Equal Greater = refl

pub compared : (x y : Stand) → ordering_then (ordering_then (nat_cmp x.place.file y.place.file) (nat_cmp x.place.offset y.place.offset)) (nat_cmp x.number y.number) ≡ slice_cmp nat_cmp (key x) (key y)
compared x y = three (nat_cmp x.place.file y.place.file) (nat_cmp x.place.offset y.place.offset) (nat_cmp x.number y.number)

-- the stand at a place of the list
pub stand_there : (sites : List Site) (n i : ℕ) (s : Site) → slice_get sites i ≡ Some s → slice_get (stands_from n sites) i ≡ Some (record { place = s.places.at; number = n + i })
stand_there [] n i s e = absurd (none-some s e)
stand_there (x ∷ xs) n zero s e = ap (λ (z : Site). Some (record { place = z.places.at; number = n })) (same_Some x s e) ∙ ap (λ (m : ℕ). Some (record { place = s.places.at; number = m })) (omega arith)
stand_there (x ∷ xs) n (suc i) s e = stand_there xs (n + 1) i s e ∙ ap (λ (m : ℕ). Some (record { place = s.places.at; number = m })) (omega arith)

-- and the site of a stand
pub site_there : (sites : List Site) (n i : ℕ) (x : Stand) → slice_get (stands_from n sites) i ≡ Some x → (s : Site) × (slice_get sites i ≡ Some s) × (x.place ≡ s.places.at) × (x.number ≡ n + i)
site_there [] n i x e = absurd (none-some x e)
site_there (s ∷ ss) n zero x e = let q = same_Some (record { place = s.places.at; number = n }) x e in (s, refl, sym (ap (λ (z : Stand). z.place) q), sym (ap (λ (z : Stand). z.number) q) ∙ omega arith)
site_there (s ∷ ss) n (suc i) x e = let r = site_there ss (n + 1) i x e in let m = r.3 in (r.0, r.1, r.2, omega (arith, m))

pub stands_length : (sites : List Site) (n : ℕ) → length (stands_from n sites) ≡ length sites
stands_length [] n = refl
stands_length (s ∷ ss) n = ap suc (stands_length ss (n + 1))

pub get_there : {X : Type 0} (xs : List X) (i : ℕ) (x d : X) → slice_get xs i ≡ Some x → get_or xs i d ≡ x
get_there [] i x d e = absurd (none-some x e)
get_there (y ∷ ys) zero x d e = same_Some y x e
get_there (y ∷ ys) (suc i) x d e = get_there ys i x d e

pub stands_none : (sites : List Site) → [] ≡ take 0 (stands_from 0 sites)
stands_none [] = refl
stands_none (s ∷ ss) = refl

-- one more stand
pub stands_more : (sites : List Site) (i : ℕ) (s : Site) (x : Stand) (old new : List Stand) → i < length sites → slice_get sites i ≡ Some s → x ≡ record { place = s.places.at; number = i } → old ≡ take i (stands_from 0 sites) → new ≡ old ++ x ∷ []
    → new ≡ take (i + 1) (stands_from 0 sites)
stands_more sites i s x old new l at is o n =
    let size = stands_length sites 0 in
    n ∙ ap (λ (t : List Stand). t ++ x ∷ []) o ∙ ap (λ (y : Stand). take i (stands_from 0 sites) ++ y ∷ []) (is ∙ ap (λ (m : ℕ). record { place = s.places.at; number = m }) (omega arith) ∙ sym (get_there (stands_from 0 sites) i (record { place = s.places.at; number = 0 + i }) x (stand_there sites 0 i s at)))
    ∙ sym (take_more (stands_from 0 sites) i x (omega (arith, size, l)))

pub stands_all : (sites : List Site) (i : ℕ) (list : List Stand) → list ≡ take i (stands_from 0 sites) → i ≡ length sites → list ≡ stands_from 0 sites
stands_all sites i list e q = e ∙ take_all i (stands_from 0 sites) (let size = stands_length sites 0 in omega (arith, size, q))

-- The order of declarations: by place, and at one place by position.
use Rattle.std.proofs.Common.{◌≡◌, ◌≢◌, ◌<◌, ℕ, List, Some, slice_get, ◌⊎◌, inl, inr, ⊎_elim, sym, subst, ◌∙◌, arith}
use Rattle.std.proofs.lemmas.Bool.{cases_order}
use Rattle.std.proofs.lemmas.Option.{same_Some}
use Rattle.ranked.specs.declared.place.Place.{Place}
use Rattle.wr_rules.specs.Sites.{Site, place_before, StandsBefore}

-- a place and a position before another
abbrev pub Before : Place → ℕ → Place → ℕ → Type 0
Before p j q k = place_before p q ⊎ ((p ≡ q) × (j < k))

pub same_place : (p q : Place) → p.file ≡ q.file → p.offset ≡ q.offset → p ≡ q
same_place p q e f = λ i. record { file = e i; offset = f i }

pub one_before : (p q : Place) (j k : ℕ) → j ≢ k → Before p j q k ⊎ Before q k p j
one_before p q j k n = ⊎_elim
    (λ f. ⊎_elim
    (λ o. ⊎_elim (λ e. absurd (n e)) (λ l. ⊎_elim (λ b. inl (inr (same_place p q f o, b))) (λ b. inr (inr (same_place q p (sym f) (sym o), b))) l) (cases_order j k))
    (λ l. ⊎_elim (λ b. inl (inl (inr (f, b)))) (λ b. inr (inl (inr (sym f, b)))) l) (cases_order p.offset q.offset))
    (λ l. ⊎_elim (λ b. inl (inl (inl b))) (λ b. inr (inl (inl b))) l) (cases_order p.file q.file)

pub not_itself : (p : Place) (j : ℕ) → ¬ (Before p j p j)
not_itself p j b = ⊎_elim (λ l. ⊎_elim (λ f. omega (arith, f)) (λ o. (let x = o.1 in omega (arith, x))) l) (λ s. (let x = s.1 in omega (arith, x))) b

places_follow : (p q r : Place) → place_before p q → place_before q r → place_before p r
places_follow p q r a b = ⊎_elim
    (λ f. ⊎_elim (λ g. inl (omega (arith, f, g))) (λ g. (let x = g.0 in inl (omega (arith, f, x)))) b)
    (λ f. ⊎_elim (λ g. (let x = f.0 in inl (omega (arith, x, g)))) (λ g. (let x = f.1 in let y = g.1 in inr (f.0 ∙ g.0, omega (arith, x, y)))) b) a

pub follows : (p q r : Place) (i j k : ℕ) → Before p i q j → Before q j r k → Before p i r k
follows p q r i j k a b = ⊎_elim
    (λ f. ⊎_elim (λ g. inl (places_follow p q r f g)) (λ g. inl (subst (place_before p) g.0 f)) b)
    (λ f. ⊎_elim (λ g. inl (subst (λ x. place_before x r) (sym f.0) g)) (λ g. (let x = f.1 in let y = g.1 in inr (f.0 ∙ g.0, omega (arith, x, y)))) b) a

-- ---- the same of declarations

module _ (sites : List Site) where
  pub at_once : (j k : ℕ) (s t : Site) → slice_get sites j ≡ Some s → slice_get sites k ≡ Some t → Before s.places.at j t.places.at k → StandsBefore sites j k
  at_once j k s t a b l = (s, t, a, b, l)

  pub so_before : (j k : ℕ) (s t : Site) → slice_get sites j ≡ Some s → slice_get sites k ≡ Some t → StandsBefore sites j k → Before s.places.at j t.places.at k
  so_before j k s t a b h = subst (λ (y : Site). Before s.places.at j y.places.at k) (same_Some h.1 t (sym h.3 ∙ b)) (subst (λ (x : Site). Before x.places.at j h.1.places.at k) (same_Some h.0 s (sym h.2 ∙ a)) h.4)

  pub apart_before : (j k : ℕ) → StandsBefore sites j k → j ≢ k
  apart_before j k h e =
      let t : slice_get sites k ≡ Some h.0 = subst (λ n. slice_get sites n ≡ Some h.0) e h.2 in
      not_itself h.0.places.at k (so_before k k h.0 h.0 t t (subst (λ n. StandsBefore sites n k) e h))

  pub before_follows : (i j k : ℕ) → StandsBefore sites i j → StandsBefore sites j k → StandsBefore sites i k
  before_follows i j k g h = (g.0, h.1, g.2, h.3, follows g.0.places.at g.1.places.at h.1.places.at i j k g.4 (so_before j k g.1 h.1 g.3 h.3 h))

  pub either_before : (j k : ℕ) (s t : Site) → slice_get sites j ≡ Some s → slice_get sites k ≡ Some t → j ≢ k → StandsBefore sites j k ⊎ StandsBefore sites k j
  either_before j k s t a b n = ⊎_elim (λ l. inl (at_once j k s t a b l)) (λ l. inr (at_once k j t s b a l)) (one_before s.places.at t.places.at j k n)

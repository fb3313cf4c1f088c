-- In order, the first ones are those that stand before.
use Rattle.std.proofs.Common.{◌≡◌, ◌<◌, ◌≤◌, ◌+◌, ◌==◌, ℕ, zero, suc, Bool, true, false, cond, List, [], ◌∷◌, ⊎_elim, Some, map, sum, length, take, get_or, slice_get, sum_by, is_lt, refl, sym, ap, subst, ◌∙◌, arith, true≢false, zero-add}
use Rattle.std.specs.declared.cmp.Ordering.{Ordering}
use Rattle.std.specs.declared.cmp.Ordering.TheVariants.{Less, Equal, Greater}
use Rattle.std.specs.Ordering.{nat_cmp, ordering_reverse}
use Rattle.std.specs.Cmp.Lexicographic.{slice_cmp, nat_list_cmp_total}
use Rattle.std.specs.FinMap.{nat_cmp-IsAntisymmetric, slice_cmp-IsAntisymmetric}
use Rattle.std.proofs.lemmas.List.Sums.{sum_by-cons}
use Rattle.std.proofs.lemmas.List.Sorted.{ranks_by, sorted_far, sum_by-IsPermutation, Contains-permutation, IsPermutation-sym}
use Rattle.std.proofs.lemmas.Bool.Decides.{eqb_tells}
use Rattle.std.proofs.lemmas.Option.{same_Some, slice_get_read, slice_get_within}
use Rattle.ranked.specs.declared.place.Place.{Place}
use Rattle.wr_rules.specs.Sites.{Site}
use Rattle.wr_rules.specs.Limits.{before}
use Rattle.place_order.specs.declared.stands.Stand.{Stand}
use Rattle.place_order.specs.Stands.{key, stands_from, stands_of, IsPlaceOrder, counted, count_at}
use Rattle.place_order.proofs.StandLaws.{site_there, stand_there, get_there}
use Rattle.place_order.proofs.SumLaws.{stands_lower, weight, sum_before}

-- ---- each number stands once

abbrev is_number : ℕ → Stand → ℕ
is_number k x = cond (x.number == k) 1 0

different : (k n : ℕ) → k < n → (n == k) ≡ false
different k n l = ⊎_elim (λ t. (let e = t.1 in absurd (omega (arith, l, e)))) (λ t. t.0) (eqb_tells n k)

none_below : (ss : List Site) (k n : ℕ) → k < n → sum_by (is_number k) (stands_from n ss) ≡ 0
none_below [] k n l = refl
none_below (s ∷ ss) k n l =
    sum_by-cons (is_number k) (record { place = s.places.at; number = n }) (stands_from (n + 1) ss) ∙ ap (λ (b : Bool). cond b 1 0 + sum_by (is_number k) (stands_from (n + 1) ss)) (different k n l)
    ∙ zero-add (sum_by (is_number k) (stands_from (n + 1) ss)) ∙ none_below ss k (n + 1) (omega (arith, l))

once : (ss : List Site) (k n : ℕ) → sum_by (is_number k) (stands_from n ss) ≤ 1
once [] k n = omega arith
once (s ∷ ss) k n = ⊎_elim
    (λ t.
    let e = t.1 in
    let a = sum_by-cons (is_number k) (record { place = s.places.at; number = n }) (stands_from (n + 1) ss) ∙ ap (λ (b : Bool). cond b 1 0 + sum_by (is_number k) (stands_from (n + 1) ss)) t.0 in
    let z = none_below ss k (n + 1) (omega (arith, e)) in
    omega (arith, a, z))
    (λ t.
    let a = sum_by-cons (is_number k) (record { place = s.places.at; number = n }) (stands_from (n + 1) ss) ∙ ap (λ (b : Bool). cond b 1 0 + sum_by (is_number k) (stands_from (n + 1) ss)) t.0 in
    let r = once ss k (n + 1) in
    omega (arith, a, r))
    (eqb_tells n k)

module _ {X : Type 0} (f : X → ℕ) where
  one_there : (xs : List X) (p : ℕ) (d : X) → p < length xs → f (get_or xs p d) ≡ 1 → 1 ≤ sum_by f xs
  one_there [] p d l e = absurd (omega (arith, l))
  one_there (x ∷ xs) zero d l e = let a = sum_by-cons f x xs in omega (arith, a, e)
  one_there (x ∷ xs) (suc p) d l e = let a = sum_by-cons f x xs in let r = one_there xs p d (omega (arith, l)) e in omega (arith, a, r)

  two_there : (xs : List X) (i p : ℕ) (d : X) → i < p → p < length xs → f (get_or xs i d) ≡ 1 → f (get_or xs p d) ≡ 1 → 2 ≤ sum_by f xs
  two_there [] i p d l m e g = absurd (omega (arith, m))
  two_there (x ∷ xs) i zero d l m e g = absurd (omega (arith, l))
  two_there (x ∷ xs) zero (suc p) d l m e g = let a = sum_by-cons f x xs in let r = one_there xs p d (omega (arith, m)) g in omega (arith, a, r, e)
  two_there (x ∷ xs) (suc i) (suc p) d l m e g = let a = sum_by-cons f x xs in let r = two_there xs i p d (omega (arith, l)) (omega (arith, m)) e g in omega (arith, a, r)

  -- a weight that counts the first ones alone
  first_ones : (xs : List X) (w : X → ℕ) (p : ℕ) → ((i : ℕ) (d : X) → i < p → i < length xs → w (get_or xs i d) ≡ f (get_or xs i d)) → ((i : ℕ) (d : X) → p ≤ i → i < length xs → w (get_or xs i d) ≡ 0) → sum_by w xs ≡ sum_by f (take p xs)
  first_ones [] w zero a b = refl
  first_ones [] w (suc p) a b = refl
  first_ones (x ∷ xs) w zero a b =
      let h = b 0 x (omega arith) (omega arith) in
      let c = sum_by-cons w x xs in
      let r = first_ones xs w 0 (λ i d l m. absurd (omega (arith, l))) (λ i d l m. b (suc i) d (omega (arith, l)) (omega (arith, m))) in
      c ∙ ap (λ (n : ℕ). n + sum_by w xs) h ∙ zero-add (sum_by w xs) ∙ r ∙ none_taken xs
    where
      none_taken : (ys : List X) → sum_by f (take 0 ys) ≡ 0
      none_taken [] = refl
      none_taken (y ∷ ys) = refl
  first_ones (x ∷ xs) w (suc p) a b =
      sum_by-cons w x xs ∙ ap (λ (n : ℕ). n + sum_by w xs) (a 0 x (omega arith) (omega arith))
      ∙ ap (λ (n : ℕ). f x + n) (first_ones xs w p (λ i d l m. a (suc i) d (omega (arith, l)) (omega (arith, m))) (λ i d l m. b (suc i) d (omega (arith, l)) (omega (arith, m))))
      ∙ sym (sum_by-cons f x (take p xs))

-- ---- stands rise

rises : (a b : List ℕ) (r : Ordering) → slice_cmp nat_cmp a b ≡ r → (a ≡ b → ⊥) → is_lt (slice_cmp nat_cmp b a) ≡ false → is_lt (slice_cmp nat_cmp a b) ≡ true
rises a b Less e n g = ap is_lt e
rises a b Equal e n g = absurd (n (slice_cmp-IsAntisymmetric nat_cmp-IsAntisymmetric a b e))
rises a b Greater e n g = absurd (true≢false (sym (ap is_lt (nat_list_cmp_total.antisymm b a ∙ ap ordering_reverse e)) ∙ g))

abbrev third : List ℕ → ℕ
third (a ∷ b ∷ c ∷ cs) = c
third _ = 0

module _ (sites : List Site) (stands : List Stand) (o : IsPlaceOrder sites stands) where
  apart : (i p : ℕ) (d : Stand) → i < p → p < length stands → key (get_or stands i d) ≡ key (get_or stands p d) → ⊥
  apart i p d l m e =
      let k = (get_or stands p d).number in
      let same : (get_or stands i d).number ≡ k = ap third e in
      let one : is_number k (get_or stands i d) ≡ 1 = ap (λ (b : Bool). cond b 1 0) (is_equal (get_or stands i d).number k same) in
      let two : is_number k (get_or stands p d) ≡ 1 = ap (λ (b : Bool). cond b 1 0) (is_equal k k refl) in
      let many = two_there (is_number k) stands i p d l m one two in
      let moved = sum_by-IsPermutation (is_number k) (stands_of sites) stands o.permutation in
      let few = once sites k 0 in
      omega (arith, many, moved, few)
    where
      is_equal : (a b : ℕ) → a ≡ b → (a == b) ≡ true
      is_equal a b q = ⊎_elim (λ t. t.0) (λ t. absurd (t.1 q)) (eqb_tells a b)

  pub lower_first : (i p : ℕ) (d : Stand) → i < p → p < length stands → stands_lower (get_or stands i d) (get_or stands p d) ≡ true
  lower_first i p d l m =
      rises (key (get_or stands i d)) (key (get_or stands p d)) _ refl (apart i p d l m)
      (sorted_far (λ x y. is_lt (slice_cmp nat_cmp (key x) (key y))) (ranks_by nat_list_cmp_total key) stands o.sorted i p d (omega (arith, l)) m)

  pub none_lower : (i p : ℕ) (d : Stand) → p ≤ i → i < length stands → stands_lower (get_or stands i d) (get_or stands p d) ≡ false
  none_lower i p d l m = sorted_far (λ x y. is_lt (slice_cmp nat_cmp (key x) (key y))) (ranks_by nat_list_cmp_total key) stands o.sorted p i d l m

  -- the site of a stand
  pub site_of_stand : (p : ℕ) (x : Stand) → slice_get stands p ≡ Some x → (s : Site) × (slice_get sites x.number ≡ Some s) × (x.place ≡ s.places.at)
  site_of_stand p x e =
      let c = Contains-permutation stands (stands_of sites) x (IsPermutation-sym (stands_of sites) stands o.permutation) (p, slice_get_within stands p x e, get_there stands p x x e) in
      let r = site_there sites 0 c.0 x (slice_get_read (stands_of sites) (length (stands_of sites)) c.0 x refl c.1 (sym c.2)) in
      let m = r.3 in
      (r.0, subst (λ (n : ℕ). slice_get sites n ≡ Some r.0) (omega (arith, m)) r.1, r.2)

  -- the stand of a site
  pub stand_of_site : (k : ℕ) (s : Site) → slice_get sites k ≡ Some s → (p : ℕ) × (x : Stand) × (slice_get stands p ≡ Some x) × (x.number ≡ k)
  stand_of_site k s e =
      let x : Stand = record { place = s.places.at; number = 0 + k } in
      let at = stand_there sites 0 k s e in
      let c = Contains-permutation (stands_of sites) stands x o.permutation (k, slice_get_within (stands_of sites) k x at, get_there (stands_of sites) k x x at) in
      (c.0, x, slice_get_read stands (length stands) c.0 x refl c.1 (sym c.2), omega arith)

  -- what is counted at those that stand before is counted at the first ones
  pub earlier_sum : (count : Site → ℕ) (p : ℕ) (x : Stand) (s : Site) → slice_get stands p ≡ Some x → slice_get sites x.number ≡ Some s
      → sum (map count (before x.number s.places.at sites)) ≡ sum_by (count_at count sites) (take p stands)
  earlier_sum count p x s e at =
      let r = site_of_stand p x e in
      let same : r.0 ≡ s = same_Some r.0 s (sym r.1 ∙ at) in
      let place : x.place ≡ s.places.at = r.2 ∙ ap (λ (z : Site). z.places.at) same in
      let low = slice_get_within stands p x e in
      sum_before count s.places.at x.number (count_at count sites) sites x.number 0 (omega arith) (λ j z y h q. ap (λ (n : ℕ). counted count (slice_get sites n)) (omega (arith, q)) ∙ ap (counted count) h)
      ∙ sym (sum_by-IsPermutation (weight count s.places.at x.number (count_at count sites)) (stands_of sites) stands o.permutation)
      ∙ first_ones (count_at count sites) stands (weight count s.places.at x.number (count_at count sites)) p
      (λ i d l m. ap (λ (b : Bool). cond b (count_at count sites (get_or stands i d)) 0) (target i d p x s place e (lower_first i p d l low)))
      (λ i d l m. ap (λ (b : Bool). cond b (count_at count sites (get_or stands i d)) 0) (target i d p x s place e (none_lower i p d l m)))
    where
      target : {b : Bool} (i : ℕ) (d : Stand) (p : ℕ) (x : Stand) (s : Site) → x.place ≡ s.places.at → slice_get stands p ≡ Some x → stands_lower (get_or stands i d) (get_or stands p d) ≡ b
          → stands_lower (get_or stands i d) (record { place = s.places.at; number = x.number }) ≡ b
      target {b = b} i d p x s q h t =
          subst (λ (pl : Place). stands_lower (get_or stands i d) (record { place = pl; number = x.number }) ≡ b) q
          (subst (λ (y : Stand). stands_lower (get_or stands i d) y ≡ b) (get_there stands p x d h) t)

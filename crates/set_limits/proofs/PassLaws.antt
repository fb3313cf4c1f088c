-- The pass in order asks each declaration what the limit asks.
use Rattle.std.proofs.Common.{◌≡◌, ◌<◌, ◌≤◌, ◌+◌, ◌==◌, ◌&&◌, nat_le, nat_lt, ℕ, zero, suc, Bool, List, [], ◌∷◌, Option, Some, sum_by, length, take, slice_get, refl, sym, ap, subst, ◌∙◌, arith}
use Rattle.std.proofs.lemmas.List.Sums.{sum_by-cons, sum-map}
use Rattle.std.proofs.lemmas.Option.{same_Some, none-some, slice_get_within}
use Rattle.ranked.specs.Entries.{Entry}
use Rattle.ranked.specs.First.{IsFirst, Below, At, Or}
use Rattle.ranked.proofs.FirstLaws.{same}
use Rattle.wr_base.specs.declared.code.Code.TheVariants.{ManyTypes, ManyNames}
use Rattle.wr_base.specs.declared.declaration.Declaration.{Declaration}
use Rattle.wr_base.specs.declared.places.DeclPlaces.{DeclPlaces}
use Rattle.wr_rules.specs.Sites.{Site, sites_of, spot_of, If}
use Rattle.wr_rules.specs.Limits.{before, names_in, passes}
use Rattle.place_order.specs.declared.stands.Stand.{Stand}
use Rattle.place_order.specs.Stands.{IsPlaceOrder, counted, count_at}
use Rattle.place_order.proofs.StandLaws.{get_there}
use Rattle.place_order.proofs.EarlierLaws.{site_of_stand, stand_of_site, earlier_sum}
use Rattle.set_limits.specs.Counts.{capped}
use Rattle.set_limits.specs.Pass.{Past, TypesOrNames, IsStep, PastBy, AtOrder}
use Rattle.set_limits.proofs.CapLaws.{past_capped, sum_more}

pub within_types : (types : List Declaration) (places : List DeclPlaces) (k : ℕ) (s : Site) → slice_get (sites_of types places) k ≡ Some s → (k < length types) × (k < length places)
within_types [] places k s e = absurd (none-some s e)
within_types (x ∷ xs) [] k s e = absurd (none-some s e)
within_types (x ∷ xs) (y ∷ ys) zero s e = (omega arith, omega arith)
within_types (x ∷ xs) (y ∷ ys) (suc k) s e = let r = within_types xs ys k s e in let a = r.0 in let b = r.1 in (omega (arith, a), omega (arith, b))

item_at : (xs : List Stand) (k : ℕ) → k < length xs → (x : Stand) × (slice_get xs k ≡ Some x)
item_at [] k l = absurd (omega (arith, l))
item_at (x ∷ xs) zero l = (x, refl)
item_at (x ∷ xs) (suc k) l = item_at xs k (omega (arith, l))

abbrev one_of : Site → ℕ
one_of s = 1

ones : (xs : List Site) → sum_by one_of xs ≡ length xs
ones [] = refl
ones (x ∷ xs) = let a = sum_by-cons one_of x xs in let r = ones xs in omega (arith, a, r)

none_summed : (f : Stand → ℕ) (xs : List Stand) → sum_by f (take 0 xs) ≡ 0
none_summed f [] = refl
none_summed f (x ∷ xs) = refl

module _ (sites : List Site) (stands : List Stand) (o : IsPlaceOrder sites stands) where
  -- what is counted with one more
  pub counted_more : (count : Site → ℕ) (i : ℕ) (s : Site) → IsStep sites stands i s → sum_by (count_at count sites) (take (i + 1) stands) ≡ sum_by (count_at count sites) (take i stands) + count s
  counted_more count i s t =
      sum_more (count_at count sites) stands i t.stand (slice_get_within stands i t.stand t.there)
      ∙ ap (λ (x : Stand). sum_by (count_at count sites) (take i stands) + count_at count sites x) (get_there stands i t.stand t.stand t.there)
      ∙ ap (λ (z : Option Site). sum_by (count_at count sites) (take i stands) + counted count z) t.at

  first_ones : (i : ℕ) → i ≤ length stands → sum_by (count_at one_of sites) (take i stands) ≡ i
  first_ones zero l = none_summed (count_at one_of sites) stands
  first_ones (suc i) l =
      let x = item_at stands i (omega (arith, l)) in
      let s = site_of_stand sites stands o i x.0 x.1 in
      let m = counted_more one_of i s.0 (record { stand = x.0; there = x.1; at = s.1 }) in
      let r = first_ones i (omega (arith, l)) in
      let q : suc i ≡ i + 1 = omega arith in
      ap (λ (n : ℕ). sum_by (count_at one_of sites) (take n stands)) q ∙ m ∙ ap (λ (n : ℕ). n + 1) r ∙ sym q

  earlier_length : (i : ℕ) (x : Stand) (s : Site) → slice_get stands i ≡ Some x → slice_get sites x.number ≡ Some s → length (before x.number s.places.at sites) ≡ i
  earlier_length i x s e at =
      let l = slice_get_within stands i x e in
      sym (ones (before x.number s.places.at sites)) ∙ sym (sum-map one_of (before x.number s.places.at sites)) ∙ earlier_sum sites stands o one_of i x s e at ∙ first_ones i (omega (arith, l))

  module _ (i : ℕ) (s : Site) (t : IsStep sites stands i s) (limit : List Site → Site → Entry → Type 0) where
    to_order : (e : Entry) → limit (before t.stand.number s.places.at sites) s e → AtOrder sites stands limit i e
    to_order e h = (t.stand, s, t.there, t.at, h)

    from_order : (e : Entry) → AtOrder sites stands limit i e → limit (before t.stand.number s.places.at sites) s e
    from_order e (x, z, there, at, h) =
        let q : x ≡ t.stand = same_Some x t.stand (sym there ∙ t.there) in
        let r : z ≡ s = same_Some z s (sym at ∙ ap (λ (y : Stand). slice_get sites y.number) q ∙ t.at) in
        subst (λ (y : Stand). limit (before y.number s.places.at sites) s e) q (subst (λ (y : Site). limit (before x.number y.places.at sites) y e) r h)

    pub in_order : (r : Option Entry) → IsFirst (limit (before t.stand.number s.places.at sites) s) r → IsFirst (AtOrder sites stands limit i) r
    in_order r h = same (limit (before t.stand.number s.places.at sites) s) (AtOrder sites stands limit i) r to_order from_order h

  -- what the pass asks is what the limits ask
  pub step_past : (i : ℕ) (s : Site) (names next : ℕ) (t : IsStep sites stands i s) (r : Option Entry) → names ≡ capped (sum_by (count_at names_in sites) (take i stands)) → next ≡ capped (sum_by (count_at names_in sites) (take i stands) + names_in s)
      → IsFirst (PastBy i names next s) r → IsFirst (AtOrder sites stands TypesOrNames i) r
  step_past i s names next t r n m h =
      in_order i s t TypesOrNames r
      (subst (λ (k : ℕ). IsFirst (Or (If (k == 20000) ManyTypes (spot_of s)) (If (passes names_in 500000 (before t.stand.number s.places.at sites) s) ManyNames (spot_of s))) r) (sym (earlier_length i t.stand s t.there t.at))
      (subst (λ (b : Bool). IsFirst (Or (If (i == 20000) ManyTypes (spot_of s)) (If b ManyNames (spot_of s))) r) (past_capped (sum_by (count_at names_in sites) (take i stands)) (names_in s) names next n m
      ∙ ap (λ (k : ℕ). nat_le k 500000 && nat_lt 500000 (k + names_in s)) (sym (earlier_sum sites stands o names_in i t.stand s t.there t.at))) h))

  -- all in order are all
  pub all_in_order : (limit : List Site → Site → Entry → Type 0) (r : Option Entry) → IsFirst (Below (length stands) (AtOrder sites stands limit)) r → IsFirst (Past sites limit) r
  unfolding Below At
  all_in_order limit r h = same (Below (length stands) (AtOrder sites stands limit)) (Past sites limit) r to from h
    where
      to : (e : Entry) → Below (length stands) (AtOrder sites stands limit) e → Past sites limit e
      to e (p, l, (x, s, there, at, g)) = (x.number, slice_get_within sites x.number s at, (s, at, g))

      from : (e : Entry) → Past sites limit e → Below (length stands) (AtOrder sites stands limit) e
      from e (k, l, (s, at, g)) =
          let f = stand_of_site sites stands o k s at in
          (f.0, slice_get_within stands f.0 f.1 f.2, (f.1, s, f.2, subst (λ (n : ℕ). slice_get sites n ≡ Some s) (sym f.3) at, subst (λ (n : ℕ). limit (before n s.places.at sites) s e) (sym f.3) g))

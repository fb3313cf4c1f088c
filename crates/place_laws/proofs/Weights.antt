-- Running counts over declarations in their order.
use Rattle.std.proofs.Common.{◌≡◌, ◌≤◌, ◌+◌, ℕ, zero, suc, Bool, true, false, cond, ◌&&◌, ◌||◌, nat_lt, List, [], ◌∷◌, map, length, sum, slice_get, Some, inl, inr, ⊎_elim, refl, sym, ap, subst, ◌∙◌, arith}
use Rattle.std.specs.List.{filter}
use Rattle.std.proofs.lemmas.List.Sums.{sum_by-cons}
use Rattle.std.proofs.lemmas.Bool.{lt-ltb, le-ltb}
use Rattle.std.proofs.lemmas.Option.{none-some, same_Some}
use Rattle.ranked.specs.declared.place.Place.{Place}
use Rattle.wr_rules.specs.Sites.{Site}
use Rattle.wr_rules.specs.Limits.{place_less, place_same, before, sum_by}
use Rattle.place_laws.specs.Shapes.{shape}
use Rattle.place_laws.proofs.MoveLaws.{first_same}
use Rattle.place_laws.proofs.Crossing.{earlier, Weighed, tot, by, In, Ascending, weight_a, weight_b, Within, Beyond, find, not_by_itself, again, past}

pub sum_more : {X : Type 0} (f : X → ℕ) (x : X) (xs : List X) → sum (map f (x ∷ xs)) ≡ f x + sum (map f xs)
sum_more f x xs = sum_by-cons (λ n. n) (f x) (map f xs)

module _ (f g : Site → ℕ) where
  abbrev pub weighed : ℕ → Site → Weighed
  weighed i s = record { at = s.places.at; pos = i; a = f s; b = g s }

  abbrev pub weigh : ℕ → List Site → List Weighed
  weigh i [] = []
  weigh i (s ∷ ss) = weighed i s ∷ weigh (suc i) ss

  pub ascends : (i : ℕ) (ss : List Site) → Ascending i (weigh i ss)
  ascends i [] = tt
  ascends i (s ∷ ss) = (omega arith, ascends (suc i) ss)

  pub in_weigh : (z : Weighed) (i : ℕ) (ss : List Site) → In z (weigh i ss) → (k : ℕ) × (s : Site) × (slice_get ss k ≡ Some s) × (z ≡ weighed (i + k) s)
  in_weigh z i [] h = absurd h
  in_weigh z i (s ∷ ss) h = ⊎_elim
      (λ e. (0, s, refl, e ∙ ap (λ n. weighed n s) (omega arith)))
      (λ r. (let t = in_weigh z (suc i) ss r in (suc t.0, t.1, t.2, t.3 ∙ ap (λ n. weighed n t.1) (omega arith)))) h

  pub weigh_in : (i k : ℕ) (ss : List Site) (s : Site) → slice_get ss k ≡ Some s → In (weighed (i + k) s) (weigh i ss)
  weigh_in i k [] s e = absurd (none-some s e)
  weigh_in i zero (x ∷ ss) s e = inl (ap (λ n. weighed n s) (omega arith) ∙ ap (weighed i) (sym (same_Some x s e)))
  weigh_in i (suc k) (x ∷ ss) s e = inr (subst (λ n. In (weighed n s) (weigh (suc i) ss)) (omega arith) (weigh_in (suc i) k ss s e))

  module _ (w : Weighed → ℕ) (h : Site → ℕ) (is : (i : ℕ) (s : Site) → w (weighed i s) ≡ h s) where
    pub whole : (i : ℕ) (ss : List Site) → sum_by h ss ≡ tot w (weigh i ss)
    whole i [] = refl
    whole i (s ∷ ss) = let r = whole (suc i) ss in let e = is i s in sum_more h s ss ∙ omega (arith, r, e)

    -- the test at this place holds of one, which counts, or doesn't
    counted : (i : ℕ) (s : Site) (b c : Bool) → b ≡ c → (rest : List Site) (us : List Weighed) → sum_by h rest ≡ tot w us
        → sum_by h (cond b (s ∷ rest) rest) ≡ tot w (cond c (weighed i s ∷ us) us)
    counted i s true true e rest us r = let x = is i s in sum_more h s rest ∙ omega (arith, r, x)
    counted i s false false e rest us r = r
    counted i s true false e rest us r = cc
    counted i s false true e rest us r = cc

    or_no : (a b c : Bool) → c ≡ false → a ≡ (a || (b && c))
    or_no true b c e = refl
    or_no false true c e = sym e
    or_no false false c e = refl

    or_so : (a b c : Bool) → c ≡ true → (a || b) ≡ (a || (b && c))
    or_so true b c e = refl
    or_so false true c e = sym e
    or_so false false c e = refl

    pub past_all : (i k : ℕ) (at : Place) (ss : List Site) → k ≤ i → sum_by h (before zero at ss) ≡ tot w (filter (λ u. earlier u.at u.pos at k) (weigh i ss))
    past_all i k at [] l = refl
    past_all i k at (s ∷ ss) l =
        counted i s (place_less s.places.at at) (earlier s.places.at i at k) (or_no (place_less s.places.at at) (place_same s.places.at at) (nat_lt i k) (le-ltb i k l))
        (before zero at ss) (filter (λ u. earlier u.at u.pos at k) (weigh (suc i) ss)) (past_all (suc i) k at ss (omega (arith, l)))

    pub up_to : (n i k : ℕ) (at : Place) (ss : List Site) → k ≡ i + n → sum_by h (before n at ss) ≡ tot w (filter (λ u. earlier u.at u.pos at k) (weigh i ss))
    up_to n i k at [] e = refl
    up_to zero i k at (s ∷ ss) e = past_all i k at (s ∷ ss) (omega (arith, e))
    up_to (suc n) i k at (s ∷ ss) e =
        counted i s (place_less s.places.at at || place_same s.places.at at) (earlier s.places.at i at k) (or_so (place_less s.places.at at) (place_same s.places.at at) (nat_lt i k) (lt-ltb i k (omega (arith, e))))
        (before n at ss) (filter (λ u. earlier u.at u.pos at k) (weigh (suc i) ss)) (up_to n (suc i) k at ss (omega (arith, e)))

less_left : (w : Weighed → ℕ) (p : Weighed → Bool) (xs : List Weighed) → tot w (filter p xs) ≤ tot w xs
less_left w p [] = omega arith
less_left w p (x ∷ xs) = let r = less_left w p xs in elim (p x) as (λ t. tot w (cond t (x ∷ filter p xs) (filter p xs)) ≤ w x + tot w xs) [
  | true ↦ omega (arith, r)
  | false ↦ omega (arith, r)
]

-- what stands before one of a list, and that one, are no more than the list
part_of_all : (w : Weighed → ℕ) (z : Weighed) (xs : List Weighed) → In z xs → tot w (filter (by z) xs) + w z ≤ tot w xs
part_of_all w z [] i = absurd i
part_of_all w z (x ∷ xs) i = ⊎_elim
    (λ e.
    let none : by z x ≡ false = ap (by z) (sym e) ∙ not_by_itself z in
    let same = ap (λ (t : Bool). tot w (cond t (x ∷ filter (by z) xs) (filter (by z) xs))) none in
    let r = less_left w (by z) xs in
    let v = ap w e in
    omega (arith, same, r, v))
    (λ h.
    let r = part_of_all w z xs h in
    elim (by z x) as (λ t. tot w (cond t (x ∷ filter (by z) xs) (filter (by z) xs)) + w z ≤ w x + tot w xs) [
      | true ↦ omega (arith, r)
      | false ↦ omega (arith, r)
    ]) i

-- a declaration where two counts pass their limits
pub record Passes (f g : Site → ℕ) (la lb : ℕ) (sites : List Site) : Type 0 where
  pub k : ℕ
  pub s : Site
  pub at : slice_get sites k ≡ Some s
  pub held : Within la lb (sum_by f (before k s.places.at sites)) (sum_by g (before k s.places.at sites))
  pub beyond : Beyond la lb (sum_by f (before k s.places.at sites) + f s) (sum_by g (before k s.places.at sites) + g s)

module _ (f g : Site → ℕ) (la lb : ℕ) where
  summed_a : (k : ℕ) (at : Place) (ss : List Site) → sum_by f (before k at ss) ≡ tot weight_a (filter (λ u. earlier u.at u.pos at k) (weigh f g 0 ss))
  summed_a k at ss = up_to f g weight_a f (λ i s. refl) k 0 k at ss (omega arith)

  summed_b : (k : ℕ) (at : Place) (ss : List Site) → sum_by g (before k at ss) ≡ tot weight_b (filter (λ u. earlier u.at u.pos at k) (weigh f g 0 ss))
  summed_b k at ss = up_to f g weight_b g (λ i s. refl) k 0 k at ss (omega arith)

  -- so the whole passes a limit
  passed : (ss : List Site) → Passes f g la lb ss → Beyond la lb (sum_by f ss) (sum_by g ss)
  passed ss p =
      let z = weighed f g p.k p.s in
      let i = subst (λ n. In (weighed f g n p.s) (weigh f g 0 ss)) (omega arith) (weigh_in f g 0 p.k ss p.s p.at) in
      let pa = part_of_all weight_a z (weigh f g 0 ss) i in
      let pb = part_of_all weight_b z (weigh f g 0 ss) i in
      let sa = summed_a p.k p.s.places.at ss in
      let sb = summed_b p.k p.s.places.at ss in
      let wa = whole f g weight_a f (λ i s. refl) 0 ss in
      let wb = whole f g weight_b g (λ i s. refl) 0 ss in
      ⊎_elim (λ l. inl (omega (arith, l, pa, sa, wa))) (λ l. inr (omega (arith, l, pb, sb, wb))) p.beyond

  -- where the whole passes a limit there is a declaration where it is passed
  passing : (ss : List Site) → Beyond la lb (sum_by f ss) (sum_by g ss) → Passes f g la lb ss
  passing ss b =
      let wa = whole f g weight_a f (λ i s. refl) 0 ss in
      let wb = whole f g weight_b g (λ i s. refl) 0 ss in
      let r = find la lb (length (weigh f g 0 ss)) (weigh f g 0 ss) 0 0 0 (ascends f g 0 ss) (omega arith) (omega arith, omega arith)
      (past la lb (sum_by f ss) (0 + tot weight_a (weigh f g 0 ss)) (sum_by g ss) (0 + tot weight_b (weigh f g 0 ss)) (omega (arith, wa)) (omega (arith, wb)) b) in
      let t = in_weigh f g r.z 0 ss r.inside in
      let e : r.z ≡ weighed f g t.0 t.1 = t.3 ∙ ap (λ n. weighed f g n t.1) (omega arith) in
      let ea = ap (λ (z : Weighed). tot weight_a (filter (by z) (weigh f g 0 ss))) e in
      let eb = ap (λ (z : Weighed). tot weight_b (filter (by z) (weigh f g 0 ss))) e in
      let za = ap weight_a e in
      let zb = ap weight_b e in
      let sa = summed_a t.0 t.1.places.at ss in
      let sb = summed_b t.0 t.1.places.at ss in
      record {
        k = t.0;
        s = t.1;
        at = t.2;
        held = again la lb (0 + tot weight_a (filter (by r.z) (weigh f g 0 ss))) (sum_by f (before t.0 t.1.places.at ss)) (0 + tot weight_b (filter (by r.z) (weigh f g 0 ss))) (sum_by g (before t.0 t.1.places.at ss)) (omega (arith, ea, sa)) (omega (arith, eb, sb)) r.held;
        beyond = past la lb (0 + tot weight_a (filter (by r.z) (weigh f g 0 ss)) + r.z.a) (sum_by f (before t.0 t.1.places.at ss) + f t.1) (0 + tot weight_b (filter (by r.z) (weigh f g 0 ss)) + r.z.b) (sum_by g (before t.0 t.1.places.at ss) + g t.1)
            (omega (arith, ea, sa, za)) (omega (arith, eb, sb, zb)) r.beyond;
      }

  module _ (alike_f : (x y : Site) → shape x ≡ shape y → f x ≡ f y) (alike_g : (x y : Site) → shape x ≡ shape y → g x ≡ g y) where
    same_sum : (h : Site → ℕ) → ((x y : Site) → shape x ≡ shape y → h x ≡ h y) → (xs ys : List Site) → map shape xs ≡ map shape ys → sum_by h xs ≡ sum_by h ys
    same_sum h each [] [] e = refl
    same_sum h each [] (y ∷ ys) e = cc
    same_sum h each (x ∷ xs) [] e = cc
    same_sum h each (x ∷ xs) (y ∷ ys) e =
        let t = first_same shape shape x y xs ys e in
        let r = same_sum h each xs ys t.1 in
        let v = each x y t.0 in
        let mx = sum_more h x xs in
        let my = sum_more h y ys in
        omega (arith, r, v, mx, my)

    -- the limits are passed somewhere wherever declarations stand
    pub passes_moved : (ss ts : List Site) → map shape ss ≡ map shape ts → Passes f g la lb ss → Passes f g la lb ts
    passes_moved ss ts e p = passing ts (past la lb (sum_by f ss) (sum_by f ts) (sum_by g ss) (sum_by g ts) (same_sum f alike_f ss ts e) (same_sum g alike_g ss ts e) (passed ss p))

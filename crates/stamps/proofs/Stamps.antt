-- One stamp more, and one owner more.
use Rattle.std.proofs.Common.{◌≡◌, ◌≢◌, ◌<◌, ◌≤◌, ◌+◌, ◌^◌, ◌↔◌, ℕ, zero, suc, Bool, false, IsTrue, List, [], ◌∷◌, ◌⊎◌, inl, inr, ⊎_elim, refl, sym, ap, subst, ◌∙◌, arith, take, set, get_or, length, true≢false}
use Rattle.std.proofs.lemmas.List.{get_or-set_same, get_or-set_other}
use Rattle.chains.specs.Graphs.{In, steps_of}
use Rattle.chains.proofs.Members.{is_in}
use Rattle.chains.proofs.Marking.{same_or_not, next_in, still_in, now_in, In-get_or}
use Rattle.stamps.specs.Shared.{stamp_in, Stamped, Shared}
use Rattle.stamps.specs.Within.{Lower, LeadsOut, Raised}

module _ (stamps now first : List ℕ) (list : List ℕ) (i x m : ℕ) (l : i < length list) (e : x ≡ get_or list i 0) (within : x < length stamps) (is : now ≡ set stamps x m) where
  pub here_more : ((a : ℕ) → In a (take i list) → stamp_in stamps a ≡ m) → (a : ℕ) → In a (take (i + 1) list) → stamp_in now a ≡ m
  here_more h a t = ap (λ ms. stamp_in ms a) is ∙ ⊎_elim (λ q. subst (λ y. stamp_in (set stamps x m) y ≡ m) q (get_or-set_same stamps x m 0 within))
      (λ q. get_or-set_other stamps x a m 0 (λ p. q (sym p)) ∙ ⊎_elim (λ y. h a y) (λ y. absurd (q y)) (next_in list i x a l e t)) (same_or_not x a)

  pub there_more : ((a : ℕ) → (In a (take i list) → ⊥) → stamp_in stamps a ≡ stamp_in first a) → (a : ℕ) → (In a (take (i + 1) list) → ⊥) → stamp_in now a ≡ stamp_in first a
  there_more h a t =
      ap (λ ms. stamp_in ms a) is
      ∙ get_or-set_other stamps x a m 0 (λ p. t (subst (λ y. In y (take (i + 1) list)) (sym p) (now_in list i x l e)))
      ∙ h a (λ y. t (still_in list i x a l y))

-- one is another's that is stamped
abbrev pub Other : ℕ → ℕ → ℕ → Type 0
Other floor mine stamp = (floor < stamp) × (stamp ≢ mine)

module _ (floor mine : ℕ) (first stamps : List ℕ) (list : List ℕ) (i x : ℕ) (l : i < length list) (e : x ≡ get_or list i 0)
    (here : (a : ℕ) → In a (take i list) → stamp_in stamps a ≡ mine) (there : (a : ℕ) → (In a (take i list) → ⊥) → stamp_in stamps a ≡ stamp_in first a) where
  stamped_on : Stamped floor mine first (take i list) → Stamped floor mine first (take (i + 1) list)
  stamped_on s = record { x = s.x; of_list = still_in list i x s.x l s.of_list; above = s.above; other = s.other }

  stamped_now : Other floor mine (stamp_in stamps x) → Stamped floor mine first (take (i + 1) list)
  stamped_now o = ⊎_elim (λ a. absurd (o.1 (here x a))) (λ n. (let t = there x n in
      record { x = x; of_list = now_in list i x l e; above = subst (λ s. floor < s) t o.0; other = λ q. o.1 (t ∙ q) })) (is_in x (take i list))

  stamped_back : Stamped floor mine first (take (i + 1) list) → Stamped floor mine first (take i list) ⊎ Other floor mine (stamp_in stamps x)
  stamped_back s = ⊎_elim
      (λ a. inl (record { x = s.x; of_list = a; above = s.above; other = s.other }))
      (λ q. ⊎_elim
      (λ a. inl (record { x = s.x; of_list = subst (λ y. In y (take i list)) q a; above = s.above; other = s.other }))
      (λ n. (let t : stamp_in stamps x ≡ stamp_in first s.x = there x n ∙ ap (stamp_in first) q in
      inr (subst (λ y. floor < y) (sym t) s.above, λ p. s.other (sym t ∙ p)))) (is_in x (take i list)))
      (next_in list i x s.x l e s.of_list)

  pub met_more : (met both other : Bool) → IsTrue met ↔ Stamped floor mine first (take i list) → IsTrue other ↔ Other floor mine (stamp_in stamps x) → IsTrue both ↔ (IsTrue met ⊎ IsTrue other)
      → IsTrue both ↔ Stamped floor mine first (take (i + 1) list)
  met_more met both other m o b = (
    λ h. ⊎_elim (λ t. stamped_on (m.0 t)) (λ t. stamped_now (o.0 t)) (b.0 h),
    λ s. b.1 (⊎_elim (λ t. inl (m.1 t)) (λ t. inr (o.1 t)) (stamped_back s)),
  )

-- the owners so far
pub record Going (owned : List (List ℕ)) (floor : ℕ) (set : List ℕ) (stamps : List ℕ) (found : Bool) : Type 0 where
  pub upto : (x : ℕ) → stamp_in stamps x ≤ floor + 2 ^ 32
  pub whose : (x : ℕ) → floor < stamp_in stamps x → (a : ℕ) × In a set × In x (steps_of owned a) × (stamp_in stamps x ≡ floor + a + 1)
  pub all_ : (a x : ℕ) → In a set → In x (steps_of owned a) → floor < stamp_in stamps x
  pub told : IsTrue found ↔ Shared owned set

pub going_none : (owned : List (List ℕ)) (floor : ℕ) (stamps : List ℕ) → ((x : ℕ) → stamp_in stamps x ≤ floor) → Going owned floor [] stamps false
going_none owned floor stamps h = record {
  upto = λ x. (let k = h x in omega (arith, k));
  whose = λ x l. (let k = h x in absurd (omega (arith, k, l)));
  all_ = λ a x i s. absurd i;
  told = (λ e. cc, λ s. absurd s.first);
}

module _ (owned : List (List ℕ)) (floor : ℕ) (list : List ℕ) (i a : ℕ) (l : i < length list) (e : a ≡ get_or list i 0) (low : a + 1 ≤ 2 ^ 32) (old new : List ℕ) (found both met : Bool)
    (g : Going owned floor (take i list) old found)
    (m : IsTrue met ↔ Stamped floor (floor + a + 1) old (steps_of owned a))
    (here : (x : ℕ) → In x (steps_of owned a) → stamp_in new x ≡ floor + a + 1)
    (there : (x : ℕ) → (In x (steps_of owned a) → ⊥) → stamp_in new x ≡ stamp_in old x)
    (b : IsTrue both ↔ (IsTrue found ⊎ IsTrue met)) where
  shared_on : Shared owned (take i list) → Shared owned (take (i + 1) list)
  shared_on s = record { a = s.a; b = s.b; first = still_in list i a s.a l s.first; second = still_in list i a s.b l s.second; apart = s.apart; thing = s.thing; of_first = s.of_first; of_second = s.of_second }

  shared_now : Stamped floor (floor + a + 1) old (steps_of owned a) → Shared owned (take (i + 1) list)
  shared_now s = let w = g.whose s.x s.above in record {
    a = w.0;
    b = a;
    first = still_in list i a w.0 l w.1;
    second = now_in list i a l e;
    apart = λ q. s.other (w.3 ∙ ap (λ y. floor + y + 1) q);
    thing = s.x;
    of_first = w.2;
    of_second = s.of_list;
  }

  -- an earlier owner shares with this one
  one_old : (q x : ℕ) → In q (take i list) → q ≢ a → In x (steps_of owned q) → In x (steps_of owned a) → Shared owned (take i list) ⊎ Stamped floor (floor + a + 1) old (steps_of owned a)
  one_old q x iq n xq xa =
      let above = g.all_ q x iq xq in
      let w = g.whose x above in
      ⊎_elim
      (λ same. inl (record { a = q; b = a; first = iq; second = subst (λ y. In y (take i list)) same w.1; apart = n; thing = x; of_first = xq; of_second = xa }))
      (λ apart. inr (record { x = x; of_list = xa; above = above; other = λ p. apart (let r = sym w.3 ∙ p in omega (arith, r)) }))
      (same_or_not w.0 a)

  shared_back : Shared owned (take (i + 1) list) → Shared owned (take i list) ⊎ Stamped floor (floor + a + 1) old (steps_of owned a)
  shared_back s = ⊎_elim
      (λ ia. ⊎_elim
      (λ ib. inl (record { a = s.a; b = s.b; first = ia; second = ib; apart = s.apart; thing = s.thing; of_first = s.of_first; of_second = s.of_second }))
      (λ qb. one_old s.a s.thing ia (λ p. s.apart (p ∙ qb)) s.of_first (subst (λ y. In s.thing (steps_of owned y)) (sym qb) s.of_second))
      (next_in list i a s.b l e s.second))
      (λ qa. ⊎_elim
      (λ ib. one_old s.b s.thing ib (λ p. s.apart (sym (p ∙ qa))) s.of_second (subst (λ y. In s.thing (steps_of owned y)) (sym qa) s.of_first))
      (λ qb. absurd (s.apart (sym qa ∙ qb)))
      (next_in list i a s.b l e s.second))
      (next_in list i a s.a l e s.first)

  pub going_more : Going owned floor (take (i + 1) list) new both
  going_more = record {
    upto = λ x. ⊎_elim (λ h. (let t = here x h in omega (arith, t, low))) (λ n. (let t = there x n in let u = g.upto x in omega (arith, t, u))) (is_in x (steps_of owned a));
    whose = λ x above. ⊎_elim
        (λ h. (a, now_in list i a l e, h, here x h))
        (λ n. (let w = g.whose x (subst (λ y. floor < y) (there x n) above) in (w.0, still_in list i a w.0 l w.1, w.2, there x n ∙ w.3))) (is_in x (steps_of owned a));
    all_ = λ q x iq xq. ⊎_elim
        (λ h. (let t = here x h in omega (arith, t)))
        (λ n. ⊎_elim
        (λ io. subst (λ y. floor < y) (sym (there x n)) (g.all_ q x io xq))
        (λ qa. absurd (n (subst (λ y. In x (steps_of owned y)) (sym qa) xq)))
        (next_in list i a q l e iq)) (is_in x (steps_of owned a));
    told = (λ h. ⊎_elim (λ t. shared_on (g.told.0 t)) (λ t. shared_now (m.0 t)) (b.0 h), λ s. b.1 (⊎_elim (λ t. inl (g.told.1 t)) (λ t. inr (m.1 t)) (shared_back s)));
  }

-- where none was found before, what is told is what this one says
pub only_now : (met : Bool) → IsTrue met ↔ (IsTrue false ⊎ IsTrue met)
only_now met = (λ h. inr h, λ s. ⊎_elim (λ f. cc) (λ h. h) s)

in_take : (i : ℕ) (xs : List ℕ) (a : ℕ) → In a (take i xs) → In a xs
in_take zero xs a h = absurd h
in_take (suc i) [] a h = absurd h
in_take (suc i) (x ∷ xs) a h = ⊎_elim (λ q. inl q) (λ t. inr (in_take i xs a t)) h

-- what the first of a set share, the set shares
pub shared_whole : (owned : List (List ℕ)) (set : List ℕ) (i : ℕ) → Shared owned (take i set) → Shared owned set
shared_whole owned set i s = record { a = s.a; b = s.b; first = in_take i set s.a s.first; second = in_take i set s.b s.second; apart = s.apart; thing = s.thing; of_first = s.of_first; of_second = s.of_second }

-- past the end nothing is owned
pub owned_within : (owned : List (List ℕ)) (a x : ℕ) → In x (steps_of owned a) → a < length owned
owned_within [] a x h = absurd h
owned_within (s ∷ ss) zero x h = omega arith
owned_within (s ∷ ss) (suc a) x h = let l = owned_within ss a x h in omega (arith, l)

high_or_not : (m n : ℕ) → (m ≤ n) ⊎ (n < m)
high_or_not m n = grind arith

-- none of the list has a lower stamp
module _ (stamps : List ℕ) (mine : ℕ) (list : List ℕ) (i x : ℕ) (l : i < length list) (e : x ≡ get_or list i 0) where
  pub high_more : mine ≤ stamp_in stamps x → ((a : ℕ) → In a (take i list) → mine ≤ stamp_in stamps a) → (a : ℕ) → In a (take (i + 1) list) → mine ≤ stamp_in stamps a
  high_more s h a t = ⊎_elim (λ y. h a y) (λ q. subst (λ y. mine ≤ stamp_in stamps y) q s) (next_in list i x a l e t)

pub none_lower : (stamps : List ℕ) (mine : ℕ) (list : List ℕ) (found : Bool) → found ≡ false → IsTrue found ↔ Lower stamps mine list → (y : ℕ) → In y list → mine ≤ stamp_in stamps y
none_lower stamps mine list found e b y h = ⊎_elim (λ q. q) (λ n. absurd (true≢false (sym (b.1 (record { x = y; of_list = h; below = n })) ∙ e))) (high_or_not mine (stamp_in stamps y))

-- ---- stamps that are raised
module _ (graph : List (List ℕ)) (mine : ℕ) where
  pub raised_none : (s : List ℕ) → Raised graph mine s s
  raised_none s y = inl refl

  pub raised_high : (s t : List ℕ) → Raised graph mine s t → (y : ℕ) → mine ≤ stamp_in s y → mine ≤ stamp_in t y
  raised_high s t r y h = ⊎_elim (λ q. omega (arith, q, h)) (λ p. (let q = p.1 in omega (arith, q))) (r y)

  pub raised_back : (s t : List ℕ) → Raised graph mine s t → (y : ℕ) → mine ≤ stamp_in t y → mine ≤ stamp_in s y
  raised_back s t r y h = ⊎_elim (λ q. omega (arith, q, h)) (λ p. p.0) (r y)

  pub raised_then : (s t u : List ℕ) → Raised graph mine s t → Raised graph mine t u → Raised graph mine s u
  raised_then s t u a b y = ⊎_elim
      (λ q. ⊎_elim (λ p. inl (q ∙ p)) (λ p. inr (p.0, q ∙ p.1, p.2)) (a y))
      (λ q. inr (raised_back s t a y q.0, q.1, λ z h. raised_back s t a z (q.2 z h)))
      (b y)

  -- what a closed list has is raised
  pub raised_row : (s t : List ℕ) (a : ℕ) → ((y : ℕ) → In y (steps_of graph a) → mine ≤ stamp_in s y) → (LeadsOut graph (steps_of graph a) → ⊥)
      → ((y : ℕ) → In y (steps_of graph a) → stamp_in t y ≡ mine + 1) → ((y : ℕ) → (In y (steps_of graph a) → ⊥) → stamp_in t y ≡ stamp_in s y) → Raised graph mine s t
  raised_row s t a high closed here there y = ⊎_elim
      (λ h. inr (high y h, here y h, λ z k. ⊎_elim (λ m. high z m) (λ n. absurd (closed (record { a = y; b = z; from = h; step = k; lacks = n }))) (is_in z (steps_of graph a))))
      (λ n. inl (there y n))
      (is_in y (steps_of graph a))

-- ---- a set of which each number has the stamp
module _ (graph : List (List ℕ)) (mine : ℕ) (set : List ℕ) (first : List ℕ)
    (here : (x : ℕ) → In x set → stamp_in first x ≡ mine) (there : (x : ℕ) → (In x set → ⊥) → stamp_in first x < mine) where
  has_stamp : (x : ℕ) → mine ≤ stamp_in first x → In x set
  has_stamp x h = ⊎_elim (λ m. m) (λ n. (let t = there x n in absurd (omega (arith, t, h)))) (is_in x set)

  pub raised_upto : (s : List ℕ) → Raised graph mine first s → (x : ℕ) → stamp_in s x ≤ mine + 1
  raised_upto s r x = ⊎_elim
      (λ q. ⊎_elim (λ m. (let t = here x m in omega (arith, q, t))) (λ n. (let t = there x n in omega (arith, q, t))) (is_in x set))
      (λ p. (let q = p.1 in omega (arith, q))) (r x)

  module _ (s : List ℕ) (r : Raised graph mine first s) (i a : ℕ) (l : i < length set) (e : a ≡ get_or set i 0) where
    pub out_now : Lower s mine (steps_of graph a) → LeadsOut graph set
    out_now o = record {
      a = a;
      b = o.x;
      from = subst (λ y. In y set) (sym e) (In-get_or set i l);
      step = o.of_list;
      lacks = λ m. (let t = here o.x m in let k = raised_high graph mine first s r o.x (omega (arith, t)) in let b = o.below in omega (arith, k, b));
    }

    -- a number whose stamp is raised was looked at
    leads_in : (stamp_in s a ≡ mine → (y : ℕ) → In y (steps_of graph a) → mine ≤ stamp_in s y) → (y : ℕ) → In y (steps_of graph a) → In y set
    leads_in k y h = ⊎_elim
        (λ q. has_stamp y (raised_back graph mine first s r y (k (q ∙ here a (subst (λ z. In z set) (sym e) (In-get_or set i l))) y h)))
        (λ p. has_stamp y (p.2 y h)) (r a)

    pub in_more : (stamp_in s a ≡ mine → (y : ℕ) → In y (steps_of graph a) → mine ≤ stamp_in s y) → ((x y : ℕ) → In x (take i set) → In y (steps_of graph x) → In y set)
        → (x y : ℕ) → In x (take (i + 1) set) → In y (steps_of graph x) → In y set
    in_more k before x y t h = ⊎_elim (λ m. before x y m h) (λ q. leads_in k y (subst (λ z. In y (steps_of graph z)) (sym q) h)) (next_in set i a x l e t)

pub none_out : (graph : List (List ℕ)) (set : List ℕ) → ((x y : ℕ) → In x set → In y (steps_of graph x) → In y set) → LeadsOut graph set → ⊥
none_out graph set h o = o.lacks (h o.a o.b o.from o.step)

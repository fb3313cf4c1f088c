-- Where running counts pass their limits: there is one such place in any order, and only where the whole passes them.
use Rattle.std.proofs.Common.{◌≡◌, ◌<◌, ◌≤◌, ◌+◌, ◌==◌, ℕ, zero, suc, Bool, true, false, not, cond, ◌&&◌, ◌||◌, nat_lt, List, [], ◌∷◌, length, ◌⊎◌, inl, inr, ⊎_elim, refl, sym, ap, subst, ◌∙◌, arith, true≢false}
use Rattle.std.specs.List.{filter}
use Rattle.std.proofs.lemmas.Bool.{cases_lt, cases_Bool, ltb-true, lt-ltb, eqb-true, eq-eqb}
use Rattle.ranked.specs.declared.place.Place.{Place}
use Rattle.wr_rules.specs.Sites.{place_before}
use Rattle.wr_rules.specs.Limits.{place_less, place_same}
use Rattle.place_laws.proofs.OrderLaws.{Before, same_place, one_before, not_itself, follows}

-- ---- the order as a test

abbrev pub earlier : Place → ℕ → Place → ℕ → Bool
earlier p i q k = place_less p q || (place_same p q && nat_lt i k)

pub either_true : (a b : Bool) → (a || b) ≡ true → (a ≡ true) ⊎ (b ≡ true)
either_true true b e = inl refl
either_true false b e = inr e

pub or_right : (a b : Bool) → b ≡ true → (a || b) ≡ true
or_right true b e = refl
or_right false b e = e

pub or_left : (a b : Bool) → a ≡ true → (a || b) ≡ true
or_left true b e = refl
or_left false b e = cc

pub both_true : (a b : Bool) → (a && b) ≡ true → (a ≡ true) × (b ≡ true)
both_true true b e = (refl, e)
both_true false b e = cc

pub and_true : (a b : Bool) → a ≡ true → b ≡ true → (a && b) ≡ true
and_true true b e f = f
and_true false b e f = cc

less_so : (p q : Place) → place_less p q ≡ true → place_before p q
less_so p q e = ⊎_elim (λ f. inl (ltb-true p.file q.file f))
    (λ r. (let t = both_true (p.file == q.file) (nat_lt p.offset q.offset) r in inr (eqb-true p.file q.file t.0, ltb-true p.offset q.offset t.1)))
    (either_true (nat_lt p.file q.file) (p.file == q.file && nat_lt p.offset q.offset) e)

so_less : (p q : Place) → place_before p q → place_less p q ≡ true
so_less p q b = ⊎_elim (λ l. or_left (nat_lt p.file q.file) (p.file == q.file && nat_lt p.offset q.offset) (lt-ltb p.file q.file l))
    (λ r. or_right (nat_lt p.file q.file) (p.file == q.file && nat_lt p.offset q.offset) (and_true (p.file == q.file) (nat_lt p.offset q.offset) (eq-eqb p.file q.file r.0) (lt-ltb p.offset q.offset r.1))) b

pub is_before : (p q : Place) (i k : ℕ) → earlier p i q k ≡ true → Before p i q k
is_before p q i k e = ⊎_elim (λ l. inl (less_so p q l))
    (λ r. (let t = both_true (place_same p q) (nat_lt i k) r in let s = both_true (p.file == q.file) (p.offset == q.offset) t.0 in
    inr (same_place p q (eqb-true p.file q.file s.0) (eqb-true p.offset q.offset s.1), ltb-true i k t.1)))
    (either_true (place_less p q) (place_same p q && nat_lt i k) e)

pub before_is : (p q : Place) (i k : ℕ) → Before p i q k → earlier p i q k ≡ true
before_is p q i k b = ⊎_elim (λ l. or_left (place_less p q) (place_same p q && nat_lt i k) (so_less p q l))
    (λ r. or_right (place_less p q) (place_same p q && nat_lt i k) (and_true (place_same p q) (nat_lt i k)
    (and_true (p.file == q.file) (p.offset == q.offset) (eq-eqb p.file q.file (ap (λ (x : Place). x.file) r.0)) (eq-eqb p.offset q.offset (ap (λ (x : Place). x.offset) r.0))) (lt-ltb i k r.1))) b

-- ---- numbered places with two weights

pub record Weighed : Type 0 where
  pub at : Place
  pub pos : ℕ
  pub a : ℕ
  pub b : ℕ

abbrev pub tot : (Weighed → ℕ) → List Weighed → ℕ
tot f [] = 0
tot f (x ∷ xs) = f x + tot f xs

-- u stands before z
abbrev pub by : Weighed → Weighed → Bool
by z u = earlier u.at u.pos z.at z.pos

abbrev off : Weighed → Weighed → Bool
off z u = not (by z u)

abbrev pub In : Weighed → List Weighed → Type 0
In z [] = ⊥
In z (x ∷ xs) = (z ≡ x) ⊎ In z xs

abbrev pub Ascending : ℕ → List Weighed → Type 0
Ascending lo [] = Unit {0}
Ascending lo (x ∷ xs) = (lo ≤ x.pos) × Ascending (suc x.pos) xs

from_lower : (lo hi : ℕ) (xs : List Weighed) → lo ≤ hi → Ascending hi xs → Ascending lo xs
from_lower lo hi [] l s = tt
from_lower lo hi (x ∷ xs) l s = (let w = s.0 in omega (arith, l, w), s.1)

module _ (p : Weighed → Bool) where
  sifted : (lo : ℕ) (xs : List Weighed) → Ascending lo xs → Ascending lo (filter p xs)
  sifted lo [] s = tt
  sifted lo (x ∷ xs) s = elim (p x) as (λ t. Ascending lo (cond t (x ∷ filter p xs) (filter p xs))) [
    | true ↦ (s.0, sifted (suc x.pos) xs s.1)
    | false ↦ (let w = s.0 in from_lower lo (suc x.pos) (filter p xs) (omega (arith, w)) (sifted (suc x.pos) xs s.1))
  ]

  in_sifted : (z : Weighed) (xs : List Weighed) → In z (filter p xs) → In z xs × (p z ≡ true)
  in_sifted z [] i = absurd i
  in_sifted z (x ∷ xs) i = here (λ r. in_sifted z xs r) (p x) refl i
    where
      here : (In z (filter p xs) → In z xs × (p z ≡ true)) → (t : Bool) → p x ≡ t → In z (cond t (x ∷ filter p xs) (filter p xs)) → In z (x ∷ xs) × (p z ≡ true)
      here rest true e i = ⊎_elim (λ s. (inl s, ap p s ∙ e)) (λ r. (let t = rest r in (inr t.0, t.1))) i
      here rest false e i = let t = rest i in (inr t.0, t.1)

  no_longer : (xs : List Weighed) → length (filter p xs) ≤ length xs
  no_longer [] = omega arith
  no_longer (x ∷ xs) = let r = no_longer xs in elim (p x) as (λ t. length (cond t (x ∷ filter p xs) (filter p xs)) ≤ suc (length xs)) [
    | true ↦ omega (arith, r)
    | false ↦ omega (arith, r)
  ]

  two_parts : (f : Weighed → ℕ) (xs : List Weighed) → tot f xs ≡ tot f (filter p xs) + tot f (filter (λ u. not (p u)) xs)
  two_parts f [] = refl
  two_parts f (x ∷ xs) = let r = two_parts f xs in elim (p x) as (λ t. f x + tot f xs ≡ tot f (cond t (x ∷ filter p xs) (filter p xs)) + tot f (cond (not t) (x ∷ filter (λ u. not (p u)) xs) (filter (λ u. not (p u)) xs))) [
    | true ↦ omega (arith, r)
    | false ↦ omega (arith, r)
  ]

module _ (p q : Weighed → Bool) (within : (u : Weighed) → p u ≡ true → q u ≡ true) where
  -- a narrower test after a wider one
  narrower : (xs : List Weighed) → filter p (filter q xs) ≡ filter p xs
  narrower [] = refl
  narrower (x ∷ xs) = by_tests (narrower xs) (p x) (q x) refl refl
    where
      by_tests : filter p (filter q xs) ≡ filter p xs → (s t : Bool) → p x ≡ s → q x ≡ t → filter p (cond (q x) (x ∷ filter q xs) (filter q xs)) ≡ cond (p x) (x ∷ filter p xs) (filter p xs)
      by_tests r true true d e = ap (λ (b : Bool). filter p (cond b (x ∷ filter q xs) (filter q xs))) e ∙ ap (λ ys. cond (p x) (x ∷ ys) ys) r
      by_tests r false true d e = ap (λ (b : Bool). filter p (cond b (x ∷ filter q xs) (filter q xs))) e ∙ ap (λ ys. cond (p x) (x ∷ ys) ys) r
      by_tests r true false d e = absurd (true≢false (sym (within x d) ∙ e))
      by_tests r false false d e = ap (λ (b : Bool). filter p (cond b (x ∷ filter q xs) (filter q xs))) e ∙ r ∙ sym (ap (λ (b : Bool). cond b (x ∷ filter p xs) (filter p xs)) d)

  -- what passes the wider test passes the narrower one, or that alone
  wider : (f : Weighed → ℕ) (xs : List Weighed) → tot f (filter q xs) ≡ tot f (filter p xs) + tot f (filter q (filter (λ u. not (p u)) xs))
  wider f [] = refl
  wider f (x ∷ xs) = by_tests (wider f xs) (p x) (q x) refl refl
    where
      by_tests : tot f (filter q xs) ≡ tot f (filter p xs) + tot f (filter q (filter (λ u. not (p u)) xs)) → (s t : Bool) → p x ≡ s → q x ≡ t
          → tot f (cond (q x) (x ∷ filter q xs) (filter q xs)) ≡ tot f (cond (p x) (x ∷ filter p xs) (filter p xs)) + tot f (filter q (cond (not (p x)) (x ∷ filter (λ u. not (p u)) xs) (filter (λ u. not (p u)) xs)))
      by_tests r true false d e = absurd (true≢false (sym (within x d) ∙ e))
      by_tests r true true d e =
          let left = ap (λ (b : Bool). tot f (cond b (x ∷ filter q xs) (filter q xs))) e in
          let right = ap (λ (b : Bool). tot f (cond b (x ∷ filter p xs) (filter p xs)) + tot f (filter q (cond (not b) (x ∷ filter (λ u. not (p u)) xs) (filter (λ u. not (p u)) xs)))) d in
          left ∙ omega (arith, r) ∙ sym right
      by_tests r false true d e =
          let left = ap (λ (b : Bool). tot f (cond b (x ∷ filter q xs) (filter q xs))) e in
          let right = ap (λ (b : Bool). tot f (cond b (x ∷ filter p xs) (filter p xs)) + tot f (filter q (cond (not b) (x ∷ filter (λ u. not (p u)) xs) (filter (λ u. not (p u)) xs)))) d in
          let more = ap (λ (b : Bool). tot f (cond b (x ∷ filter q (filter (λ u. not (p u)) xs)) (filter q (filter (λ u. not (p u)) xs)))) e in
          left ∙ omega (arith, r, more) ∙ sym right
      by_tests r false false d e =
          let left = ap (λ (b : Bool). tot f (cond b (x ∷ filter q xs) (filter q xs))) e in
          let right = ap (λ (b : Bool). tot f (cond b (x ∷ filter p xs) (filter p xs)) + tot f (filter q (cond (not b) (x ∷ filter (λ u. not (p u)) xs) (filter (λ u. not (p u)) xs)))) d in
          let more = ap (λ (b : Bool). tot f (cond b (x ∷ filter q (filter (λ u. not (p u)) xs)) (filter q (filter (λ u. not (p u)) xs)))) e in
          left ∙ omega (arith, r, more) ∙ sym right

-- ---- the crossing

above : (lo : ℕ) (z : Weighed) (xs : List Weighed) → Ascending lo xs → In z xs → lo ≤ z.pos
above lo z [] s i = absurd i
above lo z (x ∷ xs) s i = ⊎_elim (λ e. subst (λ (u : Weighed). lo ≤ u.pos) (sym e) s.0) (λ r. (let w = s.0 in let t = above (suc x.pos) z xs s.1 r in omega (arith, w, t))) i

pub not_by_itself : (z : Weighed) → by z z ≡ false
not_by_itself z = ⊎_elim (λ t. absurd (not_itself z.at z.pos (is_before z.at z.at z.pos z.pos t))) (λ f. f) (cases_Bool (by z z))

-- what stands before one that stands before another stands before that
by_by : (y z : Weighed) → by z y ≡ true → (u : Weighed) → by y u ≡ true → by z u ≡ true
by_by y z e u d = before_is u.at z.at u.pos z.pos (follows u.at y.at z.at u.pos y.pos z.pos (is_before u.at y.at u.pos y.pos d) (is_before y.at z.at y.pos z.pos e))

not_back : (y z : Weighed) → by y z ≡ true → by z y ≡ false
not_back y z e = ⊎_elim (λ t. absurd (true≢false (sym (by_by z y e y t) ∙ not_by_itself y))) (λ f. f) (cases_Bool (by z y))

other_way : (y z : Weighed) → y.pos < z.pos → not (by y z) ≡ true → by z y ≡ true
other_way y z l n = ⊎_elim (λ b. before_is y.at z.at y.pos z.pos b)
    (λ b. absurd (true≢false (sym n ∙ ap not (before_is z.at y.at z.pos y.pos b))))
    (one_before y.at z.at y.pos z.pos (λ e. omega (arith, e, l)))

abbrev pub weight_a : Weighed → ℕ
weight_a u = u.a

abbrev pub weight_b : Weighed → ℕ
weight_b u = u.b

module _ (la lb : ℕ) where
  abbrev pub Within : ℕ → ℕ → Type 0
  Within x y = (x ≤ la) × (y ≤ lb)

  abbrev pub Beyond : ℕ → ℕ → Type 0
  Beyond x y = (la < x) ⊎ (lb < y)

  within_or : (x y : ℕ) → Within x y ⊎ Beyond x y
  within_or x y = ⊎_elim (λ l. inr (inl l)) (λ h. ⊎_elim (λ l. inr (inr l)) (λ k. inl (h, k)) (cases_lt lb y)) (cases_lt la x)

  not_beyond : (x y : ℕ) → Within x y → Beyond x y → ⊥
  not_beyond x y w b = let v = w.0 in let u = w.1 in ⊎_elim (λ l. omega (arith, v, l)) (λ l. omega (arith, u, l)) b

  -- the one at which the counts, begun at x and y, pass a limit
  pub record Found (xs : List Weighed) (x y : ℕ) : Type 0 where
    pub z : Weighed
    pub inside : In z xs
    pub held : Within (x + tot weight_a (filter (by z) xs)) (y + tot weight_b (filter (by z) xs))
    pub beyond : Beyond (x + tot weight_a (filter (by z) xs) + z.a) (y + tot weight_b (filter (by z) xs) + z.b)

  pub again : (x x_ y y_ : ℕ) → x ≡ x_ → y ≡ y_ → Within x y → Within x_ y_
  again x x_ y y_ e f w = (subst (λ n. n ≤ la) e w.0, subst (λ n. n ≤ lb) f w.1)

  pub past : (x x_ y y_ : ℕ) → x ≡ x_ → y ≡ y_ → Beyond x y → Beyond x_ y_
  past x x_ y y_ e f b = ⊎_elim (λ l. inl (subst (λ n. la < n) e l)) (λ l. inr (subst (λ n. lb < n) f l)) b

  -- found among part of the list, with the rest of what stands before in the beginnings
  moved : (xs ys : List Weighed) (x x_ y y_ : ℕ) → (f : Found xs x y) → In f.z ys
      → x + tot weight_a (filter (by f.z) xs) ≡ x_ + tot weight_a (filter (by f.z) ys) → y + tot weight_b (filter (by f.z) xs) ≡ y_ + tot weight_b (filter (by f.z) ys) → Found ys x_ y_
  moved xs ys x x_ y y_ f i e g = record {
    z = f.z;
    inside = i;
    held = again (x + tot weight_a (filter (by f.z) xs)) (x_ + tot weight_a (filter (by f.z) ys)) (y + tot weight_b (filter (by f.z) xs)) (y_ + tot weight_b (filter (by f.z) ys)) e g f.held;
    beyond = past (x + tot weight_a (filter (by f.z) xs) + f.z.a) (x_ + tot weight_a (filter (by f.z) ys) + f.z.a) (y + tot weight_b (filter (by f.z) xs) + f.z.b) (y_ + tot weight_b (filter (by f.z) ys) + f.z.b)
        (ap (λ n. n + f.z.a) e) (ap (λ n. n + f.z.b) g) f.beyond;
  }

  pub find : (n : ℕ) (xs : List Weighed) (lo x y : ℕ) → Ascending lo xs → length xs ≤ n → Within x y → Beyond (x + tot weight_a xs) (y + tot weight_b xs) → Found xs x y
  find n [] lo x y s l w b = absurd (not_beyond x y w (past (x + 0) x (y + 0) y (omega arith) (omega arith) b))
  find zero (u ∷ us) lo x y s l w b = absurd (omega (arith, l))
  find (suc n) (u ∷ us) lo x y s l w b =
      let ps = filter (by u) us in
      let rs = filter (off u) us in
      let sa = two_parts (by u) weight_a us in
      let sb = two_parts (by u) weight_b us in
      let lp = no_longer (by u) us in
      let lr = no_longer (off u) us in
      let first : (f : Weighed → ℕ) (z : Weighed) → by z u ≡ false → tot f (filter (by z) (u ∷ us)) ≡ tot f (filter (by z) us) = λ f z e. ap (λ (t : Bool). tot f (cond t (u ∷ filter (by z) us) (filter (by z) us))) e in
      let second : (f : Weighed → ℕ) (z : Weighed) → by z u ≡ true → tot f (filter (by z) (u ∷ us)) ≡ f u + tot f (filter (by z) us) = λ f z e. ap (λ (t : Bool). tot f (cond t (u ∷ filter (by z) us) (filter (by z) us))) e in
      ⊎_elim
      (λ inside. ⊎_elim
      (λ so_far.
      let f = find n rs (suc u.pos) (x + tot weight_a ps + u.a) (y + tot weight_b ps + u.b) (sifted (off u) (suc u.pos) us s.1) (omega (arith, l, lr)) so_far
      (past (x + tot weight_a (u ∷ us)) (x + tot weight_a ps + u.a + tot weight_a rs) (y + tot weight_b (u ∷ us)) (y + tot weight_b ps + u.b + tot weight_b rs) (omega (arith, sa)) (omega (arith, sb)) b) in
      let i = in_sifted (off u) f.z us f.inside in
      let higher = above (suc u.pos) f.z us s.1 i.0 in
      let later = other_way u f.z (omega (arith, higher)) i.1 in
      let wa = wider (by u) (by f.z) (by_by u f.z later) weight_a us in
      let wb = wider (by u) (by f.z) (by_by u f.z later) weight_b us in
      let ea = second weight_a f.z later in
      let eb = second weight_b f.z later in
      moved rs (u ∷ us) (x + tot weight_a ps + u.a) x (y + tot weight_b ps + u.b) y f (inr i.0) (omega (arith, wa, ea)) (omega (arith, wb, eb)))
      (λ here.
      let ea = first weight_a u (not_by_itself u) in
      let eb = first weight_b u (not_by_itself u) in
      record {
        z = u;
        inside = inl refl;
        held = again (x + tot weight_a ps) (x + tot weight_a (filter (by u) (u ∷ us))) (y + tot weight_b ps) (y + tot weight_b (filter (by u) (u ∷ us))) (omega (arith, ea)) (omega (arith, eb)) inside;
        beyond = past (x + tot weight_a ps + u.a) (x + tot weight_a (filter (by u) (u ∷ us)) + u.a) (y + tot weight_b ps + u.b) (y + tot weight_b (filter (by u) (u ∷ us)) + u.b) (omega (arith, ea)) (omega (arith, eb)) here;
      })
      (within_or (x + tot weight_a ps + u.a) (y + tot weight_b ps + u.b)))
      (λ passed.
      let f = find n ps (suc u.pos) x y (sifted (by u) (suc u.pos) us s.1) (omega (arith, l, lp)) w passed in
      let i = in_sifted (by u) f.z us f.inside in
      let same = narrower (by f.z) (by u) (by_by f.z u i.1) us in
      let ea = first weight_a f.z (not_back u f.z i.1) in
      let eb = first weight_b f.z (not_back u f.z i.1) in
      let na = ap (tot weight_a) same in
      let nb = ap (tot weight_b) same in
      moved ps (u ∷ us) x x y y f (inr i.0) (omega (arith, ea, na)) (omega (arith, eb, nb)))
      (within_or (x + tot weight_a ps) (y + tot weight_b ps))

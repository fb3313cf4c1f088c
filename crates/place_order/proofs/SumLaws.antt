-- What is counted at the declarations that stand before one.
use Rattle.std.proofs.Common.{◌≡◌, ◌<◌, ◌≤◌, ◌+◌, ◌==◌, ◌||◌, ◌&&◌, nat_lt, ℕ, zero, suc, Bool, true, false, cond, List, [], ◌∷◌, ◌⊎◌, ⊎_elim, Some, map, sum, slice_get, sum_by, is_lt, refl, sym, ap, subst, ◌∙◌, arith, true≢false, zero-add}
use Rattle.std.specs.declared.cmp.Ordering.{Ordering}
use Rattle.std.specs.declared.cmp.Ordering.TheVariants.{Less, Equal, Greater}
use Rattle.std.specs.Ordering.{nat_cmp, ordering_then}
use Rattle.std.specs.Cmp.{nat_cmp_is}
use Rattle.std.specs.Cmp.Lexicographic.{slice_cmp}
use Rattle.std.proofs.lemmas.List.Sums.{sum_by-cons, sum-map}
use Rattle.std.proofs.lemmas.Bool.Decides.{eqb_tells, Decides-ltb}
use Rattle.ranked.specs.declared.place.Place.{Place}
use Rattle.wr_rules.specs.Sites.{Site}
use Rattle.wr_rules.specs.Limits.{place_less, place_same, before}
use Rattle.place_order.specs.declared.stands.Stand.{Stand}
use Rattle.place_order.specs.Stands.{key, stands_from}

-- one stand is before another
abbrev pub stands_lower : Stand → Stand → Bool
stands_lower x y = is_lt (slice_cmp nat_cmp (key x) (key y))

-- the three ways that two numbers stand: how they compare, whether the first is less, whether they are the same
data Fit : Ordering → Bool → Bool → Type 0 where
  low : Fit Less true false
  even : Fit Equal false true
  high : Fit Greater false false

fit_by : (o p : Ordering) (l m e f : Bool) → o ≡ p → l ≡ m → e ≡ f → Fit p m f → Fit o l e
fit_by o p l m e f q r s h = subst (λ (x : Ordering). Fit x l e) (sym q) (subst (λ (x : Bool). Fit p x e) (sym r) (subst (λ (x : Bool). Fit p m x) (sym s) h))

no_truth : (b : Bool) → (b ≡ true → ⊥) → b ≡ false
no_truth false n = refl
no_truth true n = absurd (n refl)

not_less : (a b : ℕ) → b ≤ a → nat_lt a b ≡ false
not_less a b l = no_truth (nat_lt a b) (λ t. (let m = (Decides-ltb a b).0 t in omega (arith, l, m)))

not_same : (a b : ℕ) → (a ≡ b → ⊥) → (a == b) ≡ false
not_same a b n = ⊎_elim (λ t. absurd (n t.1)) (λ t. t.0) (eqb_tells a b)

is_same : (a b : ℕ) → a ≡ b → (a == b) ≡ true
is_same a b e = ⊎_elim (λ t. t.0) (λ t. absurd (t.1 e)) (eqb_tells a b)

three_ways : (a b : ℕ) → (a < b) ⊎ ((a ≡ b) ⊎ (b < a))
three_ways a b = grind arith

fit : (a b : ℕ) → Fit (nat_cmp a b) (nat_lt a b) (a == b)
fit a b = ⊎_elim
    (λ l. fit_by (nat_cmp a b) Less (nat_lt a b) true (a == b) false (sym (nat_cmp_is a b Less l)) ((Decides-ltb a b).1 l) (not_same a b (λ e. omega (arith, l, e))) low)
    (λ r. ⊎_elim
    (λ e. fit_by (nat_cmp a b) Equal (nat_lt a b) false (a == b) true (sym (nat_cmp_is a b Equal e)) (not_less a b (omega (arith, e))) (is_same a b e) even)
    (λ g. fit_by (nat_cmp a b) Greater (nat_lt a b) false (a == b) false (sym (nat_cmp_is a b Greater g)) (not_less a b (omega (arith, g))) (not_same a b (λ e. omega (arith, g, e))) high) r)
    (three_ways a b)

abbrev lower_by : Ordering → Ordering → Ordering → Bool
lower_by a b c = is_lt (ordering_then a (ordering_then b (ordering_then c Equal)))

abbrev less_by : Bool → Bool → Bool → Bool
less_by f e o = f || (e && o)

same_table : (a b c : Ordering) (l e m f : Bool) → Fit a l e → Fit b m f → c ≡ Less → lower_by a b c ≡ (less_by l e m || (e && f))
same_table a b c l e m f low y q = refl
same_table a b c l e m f high y q = refl
same_table a b c l e m f even low q = refl
same_table a b c l e m f even high q = refl
same_table a b c l e m f even even q = ap (λ (x : Ordering). is_lt (ordering_then x Equal)) q

less_table : (a b c : Ordering) (l e m f : Bool) → Fit a l e → Fit b m f → is_lt (ordering_then c Equal) ≡ false → lower_by a b c ≡ less_by l e m
less_table a b c l e m f low y q = refl
less_table a b c l e m f high y q = refl
less_table a b c l e m f even low q = refl
less_table a b c l e m f even high q = refl
less_table a b c l e m f even even q = q

not_lower_by : (o : Ordering) (l e : Bool) → Fit o l e → l ≡ false → is_lt (ordering_then o Equal) ≡ false
not_lower_by o l e low q = absurd (true≢false q)
not_lower_by o l e even q = refl
not_lower_by o l e high q = refl

lower_or_same : (x : Stand) (at : Place) (t : ℕ) → x.number < t → stands_lower x (record { place = at; number = t }) ≡ (place_less x.place at || place_same x.place at)
lower_or_same x at t l =
    same_table (nat_cmp x.place.file at.file) (nat_cmp x.place.offset at.offset) (nat_cmp x.number t) (nat_lt x.place.file at.file) (x.place.file == at.file) (nat_lt x.place.offset at.offset) (x.place.offset == at.offset)
    (fit x.place.file at.file) (fit x.place.offset at.offset) (sym (nat_cmp_is x.number t Less l))

lower_place : (x : Stand) (at : Place) (t : ℕ) → t ≤ x.number → stands_lower x (record { place = at; number = t }) ≡ place_less x.place at
lower_place x at t l =
    less_table (nat_cmp x.place.file at.file) (nat_cmp x.place.offset at.offset) (nat_cmp x.number t) (nat_lt x.place.file at.file) (x.place.file == at.file) (nat_lt x.place.offset at.offset) (x.place.offset == at.offset)
    (fit x.place.file at.file) (fit x.place.offset at.offset) (not_lower_by (nat_cmp x.number t) (nat_lt x.number t) (x.number == t) (fit x.number t) (not_less x.number t l))

sum_if : (count : Site → ℕ) (s : Site) (b : Bool) (ss : List Site) → sum (map count (cond b (s ∷ ss) ss)) ≡ cond b (count s) 0 + sum (map count ss)
sum_if count s true ss = sum-map count (s ∷ ss) ∙ sum_by-cons count s ss ∙ ap (λ (m : ℕ). count s + m) (sym (sum-map count ss))
sum_if count s false ss = sym (zero-add (sum (map count ss)))

module _ (count : Site → ℕ) (at : Place) (t : ℕ) (c : Stand → ℕ) where
  abbrev pub weight : Stand → ℕ
  weight x = cond (stands_lower x (record { place = at; number = t })) (c x) 0

  one_more : (s : Site) (n : ℕ) (b : Bool) (ss : List Site) → c (record { place = s.places.at; number = n }) ≡ count s → stands_lower (record { place = s.places.at; number = n }) (record { place = at; number = t }) ≡ b
      → (rest : List Site) → sum (map count rest) ≡ sum_by weight (stands_from (n + 1) ss) → sum (map count (cond b (s ∷ rest) rest)) ≡ sum_by weight (stands_from n (s ∷ ss))
  one_more s n b ss own lower rest h =
      sum_if count s b rest ∙ ap (λ (m : ℕ). cond b (count s) 0 + m) h ∙ ap (λ (m : ℕ). cond b m 0 + sum_by weight (stands_from (n + 1) ss)) (sym own)
      ∙ ap (λ (d : Bool). cond d (c (record { place = s.places.at; number = n })) 0 + sum_by weight (stands_from (n + 1) ss)) (sym lower)
      ∙ sym (sum_by-cons weight (record { place = s.places.at; number = n }) (stands_from (n + 1) ss))

  abbrev Counts : ℕ → List Site → Type 0
  Counts n ss = (j : ℕ) (s : Site) (x : Stand) → slice_get ss j ≡ Some s → x.number ≡ n + j → c x ≡ count s

  counts_on : (n : ℕ) (s : Site) (ss : List Site) → Counts n (s ∷ ss) → Counts (n + 1) ss
  counts_on n s ss h j r x e q = h (suc j) r x e (omega (arith, q))

  -- behind the number
  sum_behind : (ss : List Site) (n : ℕ) → t ≤ n → Counts n ss → sum (map count (before zero at ss)) ≡ sum_by weight (stands_from n ss)
  sum_behind [] n l h = refl
  sum_behind (s ∷ ss) n l h =
      one_more s n (place_less s.places.at at) ss (h 0 s (record { place = s.places.at; number = n }) refl (omega arith)) (lower_place (record { place = s.places.at; number = n }) at t l) (before zero at ss)
      (sum_behind ss (n + 1) (omega (arith, l)) (counts_on n s ss h))

  -- up to the number
  pub sum_before : (ss : List Site) (m n : ℕ) → t ≡ n + m → Counts n ss → sum (map count (before m at ss)) ≡ sum_by weight (stands_from n ss)
  sum_before [] m n q h = refl
  sum_before (s ∷ ss) zero n q h = sum_behind (s ∷ ss) n (omega (arith, q)) h
  sum_before (s ∷ ss) (suc m) n q h =
      one_more s n (place_less s.places.at at || place_same s.places.at at) ss (h 0 s (record { place = s.places.at; number = n }) refl (omega arith))
      (lower_or_same (record { place = s.places.at; number = n }) at t (omega (arith, q))) (before m at ss) (sum_before ss m (n + 1) (omega (arith, q)) (counts_on n s ss h))

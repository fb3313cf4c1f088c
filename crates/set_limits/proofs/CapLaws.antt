-- Sums that stay at a greatest number.
use Rattle.std.proofs.Common.{◌≡◌, ◌<◌, ◌≤◌, ◌+◌, ◌^◌, ◌-◌, ℕ, Bool, false, ◌&&◌, List, [], ◌∷◌, ◌++◌, ◌⊎◌, ⊎_elim, map, sum, sum_by, min, nat_lt, nat_le, length, take, get_or, refl, sym, ap, ◌∙◌, arith}
use Rattle.std.proofs.Math.Nat.{min-eq_left, min-eq_right}
use Rattle.std.proofs.lemmas.Bool.Decides.{leb_tells, Decides-ltb}
use Rattle.std.proofs.lemmas.List.{take_more}
use Rattle.std.proofs.lemmas.List.Sums.{sum_by-cons, sum-map}
use Rattle.set_limits.specs.Counts.{capped}

side : (m n : ℕ) → (m ≤ n) ⊎ (n ≤ m)
side m n = grind arith

le_false : (a b : ℕ) → b < a → nat_le a b ≡ false
le_false a b l = ⊎_elim (λ t. (let m = t.1 in absurd (omega (arith, l, m)))) (λ t. t.0) (leb_tells a b)

module _ (M : ℕ) where
  cap_add : (a b : ℕ) → min (min a M + b) M ≡ min (a + b) M
  cap_add a b = ⊎_elim
      (λ l. ap (λ (x : ℕ). min (x + b) M) (min-eq_left l))
      (λ l. ap (λ (x : ℕ). min (x + b) M) (min-eq_right l) ∙ min-eq_right (omega arith) ∙ sym (min-eq_right (omega (arith, l)))) (side a M)

  pub cap_both : (a b : ℕ) → min (min a M + min b M) M ≡ min (a + b) M
  cap_both a b = cap_add a (min b M) ∙ ap (λ (x : ℕ). min x M) (omega arith) ∙ cap_add b a ∙ ap (λ (x : ℕ). min x M) (omega arith)

  pub cap_le : (n L : ℕ) → L < M → nat_le (min n M) L ≡ nat_le n L
  cap_le n L l = ⊎_elim
      (λ h. ap (λ (x : ℕ). nat_le x L) (min-eq_left h))
      (λ h. ap (λ (x : ℕ). nat_le x L) (min-eq_right h) ∙ le_false M L l ∙ sym (le_false n L (omega (arith, l, h)))) (side n M)

  pub cap_lt : (n L : ℕ) → L < M → nat_lt L (min n M) ≡ nat_lt L n
  cap_lt n L l = ⊎_elim
      (λ h. ap (λ (x : ℕ). nat_lt L x) (min-eq_left h))
      (λ h. ap (λ (x : ℕ). nat_lt L x) (min-eq_right h) ∙ (Decides-ltb L M).1 l ∙ sym ((Decides-ltb L n).1 (omega (arith, l, h)))) (side n M)

-- a count more
pub one_more_count : (total next S c : ℕ) → total ≡ capped S → next ≡ capped (total + c) → next ≡ capped (S + c)
one_more_count total next S c e n = n ∙ ap (λ (x : ℕ). capped (x + c)) e ∙ cap_add (2 ^ 64 - 1) S c

-- a count more that is capped itself
pub one_more_capped : (total next S own c : ℕ) → total ≡ capped S → own ≡ capped c → next ≡ capped (total + own) → next ≡ capped (S + c)
one_more_capped total next S own c e o n = n ∙ ap (λ (x : ℕ). capped (x + own)) e ∙ ap (λ (x : ℕ). capped (capped S + x)) o ∙ cap_both (2 ^ 64 - 1) S c

-- a count before one that is capped itself
pub one_behind : (total a p S : ℕ) → p ≡ capped S → total ≡ capped (a + p) → total ≡ capped (a + S)
one_behind total a p S e n = n ∙ ap (λ (x : ℕ). capped (a + x)) e ∙ ap capped (omega arith) ∙ cap_add (2 ^ 64 - 1) S a ∙ ap capped (omega arith)

-- the test of a limit
pub past_capped : (S c total next : ℕ) → total ≡ capped S → next ≡ capped (S + c) → (nat_le total 500000 && nat_lt 500000 next) ≡ (nat_le S 500000 && nat_lt 500000 (S + c))
past_capped S c total next e n =
    ap (λ (x : ℕ). nat_le x 500000 && nat_lt 500000 next) e ∙ ap (λ (b : Bool). b && nat_lt 500000 next) (cap_le (2 ^ 64 - 1) S 500000 (omega arith))
    ∙ ap (λ (x : ℕ). nat_le S 500000 && nat_lt 500000 x) n ∙ ap (λ (b : Bool). nat_le S 500000 && b) (cap_lt (2 ^ 64 - 1) (S + c) 500000 (omega arith))

-- ---- sums

pub sum_last : {X : Type 0} (f : X → ℕ) (xs : List X) (y : X) → sum_by f (xs ++ y ∷ []) ≡ sum_by f xs + f y
sum_last f [] y = let a = sum_by-cons f y [] in omega (arith, a)
sum_last f (x ∷ xs) y = let a = sum_by-cons f x (xs ++ y ∷ []) in let b = sum_by-cons f x xs in let r = sum_last f xs y in omega (arith, a, b, r)

pub sum_more : {X : Type 0} (f : X → ℕ) (xs : List X) (i : ℕ) (d : X) → i < length xs → sum_by f (take (i + 1) xs) ≡ sum_by f (take i xs) + f (get_or xs i d)
sum_more f xs i d l = ap (sum_by f) (take_more xs i d l) ∙ sum_last f (take i xs) (get_or xs i d)

pub params_more : {X : Type 0} (f : X → ℕ) (xs : List X) (i : ℕ) (x : X) (total next : ℕ) → i < length xs → x ≡ get_or xs i x → total ≡ capped (sum (map f (take i xs))) → next ≡ capped (total + f x) → next ≡ capped (sum (map f (take (i + 1) xs)))
params_more f xs i x total next l e t n =
    one_more_count total next (sum (map f (take i xs))) (f x) t n
    ∙ ap capped (ap (λ (m : ℕ). m + f x) (sum-map f (take i xs)) ∙ ap (λ (y : _). sum_by f (take i xs) + f y) e ∙ sym (sum_more f xs i x l) ∙ sym (sum-map f (take (i + 1) xs)))

pub params_none : {X : Type 0} (f : X → ℕ) (xs : List X) → 0 ≡ capped (sum (map f (take 0 xs)))
params_none f [] = refl
params_none f (x ∷ xs) = refl

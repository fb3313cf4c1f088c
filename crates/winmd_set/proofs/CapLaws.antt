-- Sums that stay at a greatest number.
use Rattle.std.proofs.Common.{◌≡◌, ◌<◌, ◌≤◌, ◌+◌, ◌^◌, ◌-◌, ℕ, true, ◌⊎◌, ⊎_elim, min, nat_le, length, List, [], ◌∷◌, sym, ap, ◌∙◌, arith}
use Rattle.std.proofs.Math.Nat.{min-eq_left, min-eq_right}
use Rattle.std.proofs.lemmas.Bool.{leb-true, lt-leb}
use Rattle.winmd_set.specs.Stated.{capped}

side : (m n : ℕ) → (m ≤ n) ⊎ (n ≤ m)
side m n = grind arith

module _ (M : ℕ) where
  cap_add : (a b : ℕ) → min (min a M + b) M ≡ min (a + b) M
  cap_add a b = ⊎_elim
      (λ l. ap (λ (x : ℕ). min (x + b) M) (min-eq_left l))
      (λ l. ap (λ (x : ℕ). min (x + b) M) (min-eq_right l) ∙ min-eq_right (omega arith) ∙ sym (min-eq_right (omega (arith, l)))) (side a M)

  cap_behind : (a b : ℕ) → min (a + min b M) M ≡ min (a + b) M
  cap_behind a b = ap (λ (x : ℕ). min x M) (omega arith) ∙ cap_add b a ∙ ap (λ (x : ℕ). min x M) (omega arith)

  cap_le : (n L : ℕ) → L < M → nat_le (min n M) L ≡ nat_le n L
  cap_le n L l = ⊎_elim
      (λ h. ap (λ (x : ℕ). nat_le x L) (min-eq_left h))
      (λ h. ap (λ (x : ℕ). nat_le x L) (min-eq_right h) ∙ lt-leb M L l ∙ sym (lt-leb n L (omega (arith, l, h)))) (side n M)

-- a number of a u64
pub cap_none : (n : ℕ) → n < 2 ^ 64 → n ≡ capped n
cap_none n l = sym (min-eq_left (let m = l in omega (arith, m)))

-- a number behind a sum that is capped
pub cap_front : (a b sum own : ℕ) → sum ≡ capped (a + own) → capped (sum + b) ≡ capped (a + (own + b))
cap_front a b sum own e = ap (λ (x : ℕ). capped (x + b)) e ∙ cap_add (2 ^ 64 - 1) (a + own) b ∙ ap capped (omega arith)

-- a number before one that is capped
pub cap_back : (a sum own all : ℕ) → own ≡ capped sum → all ≡ capped (a + own) → all ≡ capped (a + sum)
cap_back a sum own all e h = h ∙ ap (λ (x : ℕ). capped (a + x)) e ∙ cap_behind (2 ^ 64 - 1) a sum

-- the test of a limit
pub is_small : (a sum own all : ℕ) → own ≡ capped sum → all ≡ capped (a + own) → nat_le all 500000 ≡ nat_le (a + sum) 500000
is_small a sum own all e h = ap (λ (x : ℕ). nat_le x 500000) (cap_back a sum own all e h) ∙ cap_le (2 ^ 64 - 1) (a + sum) 500000 (omega arith)

pub small_sum : (a sum own all : ℕ) → own ≡ capped sum → all ≡ capped (a + own) → nat_le (a + sum) 500000 ≡ true → all ≡ a + sum
small_sum a sum own all e h small = cap_back a sum own all e h ∙ min-eq_left (let l = leb-true (a + sum) 500000 small in omega (arith, l))

-- where nothing is left
pub no_more : {A : Type 0} (f : List A → ℕ) (none : f [] ≡ 0) (rest : List A) (sum total : ℕ) → length rest ≡ 0 → sum < 2 ^ 64 → capped (sum + f rest) ≡ capped total → sum ≡ capped total
no_more f none [] sum total e l h = cap_none sum l ∙ ap capped (omega (arith, none)) ∙ h
no_more f none (x ∷ xs) sum total e l h = absurd (omega (arith, e))

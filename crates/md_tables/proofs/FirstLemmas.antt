-- The first number that passes, as a loop looks for it.
use Rattle.std.proofs.Common.{◌≡◌, ℕ, zero, suc, ◌+◌, ◌-◌, ◌<◌, ◌≤◌, Bool, true, false, Some, None, refl, arith}
use Rattle.md_tables.specs.Faults.{first_from}

pub first_here : (f : ℕ → Bool) (i n : ℕ) → i < n → f i ≡ true → first_from f i (n - i) ≡ Some i
unfolding first_from
first_here f i n lt h =
    let k : n - i ≡ suc (n - (i + 1)) = omega arith in
    rw (k, h) refl

pub first_on : (f : ℕ → Bool) (i n : ℕ) → i < n → f i ≡ false → first_from f i (n - i) ≡ first_from f (i + 1) (n - (i + 1))
unfolding first_from
first_on f i n lt h =
    let k : n - i ≡ suc (n - (i + 1)) = omega arith in
    let s : suc i ≡ i + 1 = omega arith in
    rw (k, h, s) refl

pub first_none : (f : ℕ → Bool) (i n : ℕ) → n ≤ i → first_from f i (n - i) ≡ None
unfolding first_from
first_none f i n le =
    let k : n - i ≡ 0 = omega arith in
    rw k refl

pub none_from : (f : ℕ → Bool) (n k : ℕ) → ((m : ℕ) → f m ≡ false) → first_from f n k ≡ None
unfolding first_from
none_from f n zero h = refl
none_from f n (suc k) h = rw (h n) (none_from f (suc n) k h)

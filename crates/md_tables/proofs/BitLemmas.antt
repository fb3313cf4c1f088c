-- Bits of Valid, counted and read in loops.
use Rattle.std.proofs.Common.{◌≡◌, ℕ, zero, suc, ◌+◌, ◌-◌, ◌/◌, ◌%◌, ◌^◌, ◌<◌, ◌≤◌, true, List, length, drop, refl, ap, subst, ◌∙◌, arith, length-drop, add-zero}
use Rattle.std.proofs.Math.Pow.{pow_mono}
use Rattle.std.proofs.lemmas.Bool.{eqb-true}
use Rattle.std.proofs.lemmas.Nat.{shr-shr}
use Rattle.md_bytes.specs.Bytes.{le}
use Rattle.md_schema.specs.Tables.{bits_set, has_bit}
use Rattle.md_schema.specs.Written.{bits}
use Rattle.md_schema.proofs.CountLemmas.{bits_low}

-- one more bit is counted
pub count_on : (bits count i rest whole : ℕ) → i < bits → count + bits_set (bits - i) rest ≡ whole → (count + rest % 2) + bits_set (bits - (i + 1)) (rest / 2) ≡ whole
unfolding bits_set
count_on bits count i rest whole lt h =
    let k : bits - i ≡ suc (bits - (i + 1)) = omega arith in
    let e : bits_set (bits - i) rest ≡ rest % 2 + bits_set (bits - (i + 1)) (rest / 2) = rw k refl in
    omega (arith, e, h)

pub count_done : (bits count i rest whole : ℕ) → bits ≤ i → count + bits_set (bits - i) rest ≡ whole → count ≡ whole
unfolding bits_set
count_done bits count i rest whole le h =
    let k : bits - i ≡ 0 = omega arith in
    let e : bits_set (bits - i) rest ≡ 0 = rw k refl in
    omega (arith, e, h)

-- the bits below the next one
pub bits_more : (i valid : ℕ) → bits_set (i + 1) valid ≡ bits_set i valid + valid / 2 ^ i % 2
unfolding bits_set
bits_more zero valid = omega arith
bits_more (suc i) valid =
    let again = bits_more i (valid / 2) in
    let k : suc i + 1 ≡ suc (i + 1) = omega arith in
    let up : valid / 2 / 2 ^ i ≡ valid / 2 ^ suc i = shr-shr valid 1 i ∙ ap (λ (n : ℕ). valid / 2 ^ n) (omega arith) in
    let same : valid / 2 / 2 ^ i % 2 ≡ valid / 2 ^ suc i % 2 = ap (λ (n : ℕ). n % 2) up in
    rw k (omega (arith, again, same))

bits_up : (i k valid : ℕ) → bits_set i valid ≤ bits_set (i + k) valid
bits_up i zero valid = let e : i + 0 ≡ i = add-zero i in rw e (omega arith)
bits_up i (suc k) valid =
    let again = bits_up i k valid in
    let more = bits_more (i + k) valid in
    let e : i + suc k ≡ i + k + 1 = omega arith in
    rw e (omega (arith, again, more))

-- more bits, no fewer set
pub bits_le : (i n valid : ℕ) → i ≤ n → bits_set i valid ≤ bits_set n valid
bits_le i n valid le =
    let e : i + (n - i) ≡ n = omega arith in
    subst (λ (m : ℕ). bits_set i valid ≤ bits_set m valid) e (bits_up i (n - i) valid)

-- Valid has at most 45 bits
pub valid_low : (rows : List ℕ) (n value : ℕ) → length rows ≤ 45 → value ≡ bits (drop n rows) → value < 2 ^ 45
valid_low rows n value few e =
    let low = bits_low (drop n rows) in
    let up : 2 ^ length (drop n rows) ≤ 2 ^ 45 = pow_mono {i = length (drop n rows)} {j = 45} (omega (arith, length-drop n rows)) in
    omega (arith, low, up, e)

-- behind a set bit there is room for its count
pub bit_room : (n valid : ℕ) → n < 64 → has_bit valid n ≡ true → bits_set n valid + 1 ≤ bits_set 64 valid
bit_room n valid lt h =
    let one : valid / 2 ^ n % 2 ≡ 1 = eqb-true _ _ h in
    let more = bits_more n valid in
    let all = bits_le (n + 1) 64 valid (omega arith) in
    omega (arith, one, more, all)

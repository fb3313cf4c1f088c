-- Marks as bits.
use Rattle.std.proofs.Common.{◌≡◌, ℕ, zero, suc, ◌+◌, ◌-◌, ◌*◌, ◌/◌, ◌%◌, ◌^◌, ◌<◌, Bool, true, false, eqb, List, drop, refl, sym, ap, ◌∙◌, arith}
use Rattle.std.specs.Int.{bit_at}
use Rattle.std.proofs.lemmas.Nat.Bits.{bit_at-lt, bit_at_cat_low, bit_at_cat_high}
use Rattle.strings_heap.specs.Texts.{mark, begins_text, AreMarks}

bit_tested : (n : ℕ) → n < 2 → mark (eqb n 1) ≡ n
bit_tested zero h = refl
bit_tested (suc zero) h = refl
bit_tested (suc (suc n)) h = absurd (omega (arith, h))

-- the test of a bit
pub mark-eqb : (marks place : ℕ) → mark (eqb (bit_at marks place) 1) ≡ bit_at marks place
mark-eqb marks place = bit_tested (bit_at marks place) (bit_at-lt marks place)

pub same_marks : (a b : Bool) → mark a ≡ mark b → a ≡ b
same_marks true true e = refl
same_marks true false e = absurd (omega (arith, e))
same_marks false true e = absurd (omega (arith, e))
same_marks false false e = refl

-- the marks with a bit more at the front
pub bit_at_front : (low bit : ℕ) → bit < 2 → bit_at (low * 2 ^ 1 + bit) 0 ≡ bit
bit_at_front low bit h = bit_at_cat_low low 1 bit 0 (omega arith) ∙ omega (arith, h)

pub bit_at_behind : (marks bit k : ℕ) → bit < 2 → k < 63 → bit_at (marks % 2 ^ 63 * 2 ^ 1 + bit) (k + 1) ≡ bit_at marks k
bit_at_behind marks bit k h below =
    let back : k + 1 - 1 ≡ k = omega arith in
    let whole : marks / 2 ^ 63 * 2 ^ 63 + marks % 2 ^ 63 ≡ marks = omega arith in
    bit_at_cat_high (marks % 2 ^ 63) 1 bit (k + 1) (omega (arith, h)) (omega arith)
    ∙ ap (bit_at (marks % 2 ^ 63)) back
    ∙ sym (bit_at_cat_low (marks / 2 ^ 63) 63 (marks % 2 ^ 63) k below)
    ∙ ap (λ (n : ℕ). bit_at n k) whole

pub bit_at_behind_none : (marks k : ℕ) → k < 63 → bit_at (marks % 2 ^ 63 * 2) (k + 1) ≡ bit_at marks k
bit_at_behind_none marks k below =
    let e : marks % 2 ^ 63 * 2 ≡ marks % 2 ^ 63 * 2 ^ 1 + 0 = omega arith in
    ap (λ (n : ℕ). bit_at n (k + 1)) e ∙ bit_at_behind marks 0 k (omega arith) below

-- the marks at a place, from those behind it
pub marks_before : (bytes : List ℕ) (at marks behind : ℕ) (first : Bool) → first ≡ begins_text (drop at bytes) → bit_at marks 0 ≡ mark first
    → ((k : ℕ) → k < 63 → bit_at marks (k + 1) ≡ bit_at behind k) → AreMarks bytes (at + 1) behind → AreMarks bytes at marks
marks_before bytes at marks behind first is front high more zero below =
    let here : at ≡ at + 0 = omega arith in
    front ∙ ap mark is ∙ ap (λ (n : ℕ). mark (begins_text (drop n bytes))) here
marks_before bytes at marks behind first is front high more (suc k) below =
    let here : at + 1 + k ≡ at + suc k = omega arith in
    let next : suc k ≡ k + 1 = omega arith in
    ap (bit_at marks) next ∙ high k (omega (arith, below)) ∙ more k (omega (arith, below)) ∙ ap (λ (n : ℕ). mark (begins_text (drop n bytes))) here

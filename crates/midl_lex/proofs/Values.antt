-- A value that is read digit by digit.
use Rattle.std.proofs.Common.{◌≡◌, ℕ, ◌+◌, ◌*◌, ◌<◌, ◌≤◌, List, [], ◌∷◌, length, drop, get_or, sym, ap, ◌∙◌, add-one, drop-cons, arith}
use Rattle.std.proofs.Math.Nat.{mul-le-mul_left}
use Rattle.std.proofs.lemmas.List.{drop_all}
use Rattle.std.specs.Char.{digit_value}
use Rattle.std.specs.Str.Parse.{digits_value, digits_value_after}

-- more digits never make it less
after_ge : (base n : ℕ) (ds : List ℕ) → 0 < base → n ≤ digits_value_after base n ds
after_ge base n [] h = omega arith
after_ge base n (c ∷ cs) h =
    let i = after_ge base (n * base + digit_value c) cs h in
    let k : 1 ≤ base = omega arith in
    let m = mul-le-mul_left n k in
    omega (arith, i, m)

pub value_step : (base n i : ℕ) (ds : List ℕ) → i < length ds → digits_value_after base n (drop i ds) ≡ digits_value base ds
    → digits_value_after base (n * base + digit_value (get_or ds i 0)) (drop (i + 1) ds) ≡ digits_value base ds
value_step base n i ds lt e = ap (λ (k : ℕ). digits_value_after base (n * base + digit_value (get_or ds i 0)) (drop k ds)) (add-one i) ∙ sym (ap (digits_value_after base n) (drop-cons ds i 0 lt)) ∙ e

-- what was read so far, with a further digit, is no more than the whole
pub value_ge : (base n i : ℕ) (ds : List ℕ) → 0 < base → i < length ds → digits_value_after base n (drop i ds) ≡ digits_value base ds → n * base + digit_value (get_or ds i 0) ≤ digits_value base ds
value_ge base n i ds h lt e =
    let g = after_ge base (n * base + digit_value (get_or ds i 0)) (drop (i + 1) ds) h in
    let s = value_step base n i ds lt e in
    omega (arith, g, s)

pub value_end : (base n i : ℕ) (ds : List ℕ) → length ds ≤ i → digits_value_after base n (drop i ds) ≡ digits_value base ds → n ≡ digits_value base ds
value_end base n i ds le e = sym (ap (digits_value_after base n) (drop_all i ds le)) ∙ e

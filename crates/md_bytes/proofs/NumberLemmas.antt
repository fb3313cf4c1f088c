-- Numbers as bytes, low byte first.
use Rattle.std.proofs.Common.{◌≡◌, ℕ, zero, suc, ◌+◌, ◌-◌, ◌*◌, ◌/◌, ◌%◌, ◌^◌, ◌<◌, List, [], ◌∷◌, ◌++◌, length, refl, sym, ap, ◌∙◌, append_assoc, arith}
use Rattle.std.proofs.Math.Nat.{pow-suc}
use Rattle.md_bytes.specs.Bytes.{le, number, number_at}
use Rattle.md_bytes.specs.Stands.{Stands}
use Rattle.md_bytes.proofs.StandsLemmas.{read_at}

pub length-le : (w n : ℕ) → length (le w n) ≡ w
length-le zero n = refl
length-le (suc w) n = ap suc (length-le w (n / 256))

pub number-le : (w n : ℕ) → n < 256 ^ w → number (le w n) ≡ n
number-le zero n h = omega arith
number-le (suc w) n h =
    let e : 256 ^ suc w ≡ 256 ^ w * 256 = pow-suc 256 w in
    let below : n / 256 < 256 ^ w = omega (arith, e, h) in
    rw (number-le w (n / 256) below) (omega arith)

-- the number that was written at an offset
pub read_number : (whole : List ℕ) (offset w n : ℕ) → n < 256 ^ w → Stands whole offset (le w n) → number_at whole offset w ≡ n
read_number whole offset w n h s = ap number (read_at whole (le w n) offset w (length-le w n) s) ∙ number-le w n h

-- one more byte of a number
pub next_byte : (out total : List ℕ) (width i rest : ℕ) → i < width → out ++ le (width - i) rest ≡ total → (out ++ (rest % 256) ∷ []) ++ le (width - (i + 1)) (rest / 256) ≡ total
next_byte out total width i rest lt h =
    let k : width - i ≡ suc (width - (i + 1)) = omega arith in
    append_assoc out ((rest % 256) ∷ []) (le (width - (i + 1)) (rest / 256)) ∙ ap (λ n. out ++ le n rest) (sym k) ∙ h

-- Zeros at the end, one by one.
use Rattle.std.proofs.Common.{◌≡◌, ℕ, zero, suc, ◌+◌, ◌-◌, ◌<◌, ◌≤◌, List, [], ◌∷◌, ◌++◌, length, refl, sym, ap, ◌∙◌, append_assoc, length-append, arith}
use Rattle.std.proofs.lemmas.List.{append-nil}
use Rattle.md_bytes.specs.Padding.{zeros, up, padded}

-- one more zero
pub next_zero : (out total : List ℕ) (count i : ℕ) → i < count → out ++ zeros (count - i) ≡ total → (out ++ 0 ∷ []) ++ zeros (count - (i + 1)) ≡ total
unfolding zeros
next_zero out total count i lt h =
    let k : count - i ≡ suc (count - (i + 1)) = omega arith in
    append_assoc out (0 ∷ []) (zeros (count - (i + 1))) ∙ ap (λ n. out ++ zeros n) (sym k) ∙ h

-- no more zeros
pub no_zeros : (out total : List ℕ) (count i : ℕ) → count ≤ i → out ++ zeros (count - i) ≡ total → out ≡ total
unfolding zeros
no_zeros out total count i le h =
    let k : count - i ≡ 0 = omega arith in
    sym (append-nil out) ∙ ap (λ n. out ++ zeros n) (sym k) ∙ h

pub length-zeros : (n : ℕ) → length (zeros n) ≡ n
unfolding zeros
length-zeros zero = refl
length-zeros (suc n) = ap suc (length-zeros n)

pub length-padded : (bytes : List ℕ) → length (padded bytes) ≡ up (length bytes) 4
length-padded bytes = omega (arith, length-append bytes (zeros (up (length bytes) 4 - length bytes)), length-zeros (up (length bytes) 4 - length bytes))

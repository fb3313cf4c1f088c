-- A name ends at the first zero.
use Rattle.std.proofs.Common.{◌≡◌, ◌≢◌, ℕ, zero, suc, ◌<◌, ◌==◌, List, [], ◌∷◌, length, take, get_or, Some, None, refl, ap, arith, inl, inr}
use Rattle.std.specs.List.{position, position_or_len}
use Rattle.std.proofs.lemmas.Bool.{cases_lt, lt-ltb, eqb-false}
use Rattle.std.proofs.lemmas.List.Quantifiers.{position-Some}
use Rattle.std.proofs.lemmas.List.Sums.{fails_before_first}
use borrow.Author.Tests.{eqb-true}
use Rattle.winmd_image.specs.Root.{name_to_zero}

-- no zero stands before a place
abbrev pub NoZeroBefore : List ℕ → ℕ → Type 0
NoZeroBefore bytes end = (k : ℕ) → k < end → get_or bytes k 0 ≢ 0

cut_at : (bytes : List ℕ) (end : ℕ) → end < length bytes → get_or bytes end 0 ≡ 0 → NoZeroBefore bytes end → name_to_zero bytes ≡ take end bytes
cut_at [] end lt z before = absurd (omega arith)
cut_at (zero ∷ bytes) zero lt z before = refl
cut_at (zero ∷ bytes) (suc end) lt z before = absurd (before 0 (omega arith) refl)
cut_at (suc b ∷ bytes) zero lt z before = absurd cc
cut_at (suc b ∷ bytes) (suc end) lt z before = ap (λ (l : List ℕ). suc b ∷ l) (cut_at bytes end (omega arith) z (λ k below. before (suc k) (omega (arith, below))))

not_cut : (bytes : List ℕ) → NoZeroBefore bytes (length bytes) → name_to_zero bytes ≡ bytes
not_cut [] before = refl
not_cut (zero ∷ bytes) before = absurd (before 0 (omega arith) refl)
not_cut (suc b ∷ bytes) before = ap (λ (l : List ℕ). suc b ∷ l) (not_cut bytes (λ k below. before (suc k) (omega (arith, below))))

pub name_ends : (bytes : List ℕ) (end : ℕ) → position (λ b. b == 0) bytes ≡ Some end → name_to_zero bytes ≡ take end bytes
name_ends bytes end h =
    let first = position-Some (λ b. b == 0) bytes end 0 h in
    cut_at bytes end first.0 (eqb-true _ _ first.1) (λ k below. eqb-false _ _ (first.2 k below))

pub name_whole : (bytes : List ℕ) → position (λ b. b == 0) bytes ≡ None → name_to_zero bytes ≡ bytes
name_whole bytes h = not_cut bytes (λ k below zero.
    elim (cases_lt (position_or_len (λ b. b == 0) bytes) (length bytes)) [
      | inl within ↦ absurd (let test = lt-ltb _ _ within in let e = rw test at h in cc)
      | inr none ↦ eqb-false _ _ (fails_before_first (λ b. b == 0) bytes k 0 (omega (arith, none, below))) zero
    ])

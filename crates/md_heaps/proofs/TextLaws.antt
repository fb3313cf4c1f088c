-- A text at an index is the bytes before the first zero.
use Rattle.std.proofs.Common.{◌≡◌, ℕ, ◌+◌, ◌==◌, List, [], ◌∷◌, ◌++◌, length, get_or, take, drop, Some, None, inl, inr, sym, ap, ◌∙◌, arith, length-append}
use Rattle.std.specs.List.{position_or_len}
use Rattle.std.proofs.lemmas.List.{get_or-take, length-take-le, take_more}
use Rattle.std.proofs.lemmas.List.Quantifiers.{position-Some}
use Rattle.std.proofs.lemmas.Bool.{eqb-false, cases_lt, lt-ltb}
use borrow.Author.Tests.{eqb-true}
use Rattle.std.specs.List.{position}
use Rattle.std.proofs.lemmas.List.Sums.{fails_before_first}
use Rattle.md_heaps.specs.Texts.{TextAt, HasNoZero, text_bytes}
use Rattle.md_heaps.proofs.HeapLaws.{stands_grows, stands_new}

-- what stands before the first zero is a text
pub text_found : (heap : List ℕ) (at end : ℕ) → position (λ b. b == 0) (drop at heap) ≡ Some end → TextAt heap at (take end (drop at heap))
text_found heap at end h =
    let bytes = drop at heap in
    let first = position-Some (λ b. b == 0) bytes end 0 h in
    let long : length (take end bytes) ≡ end = length-take-le end bytes (omega arith) in
    let zero : get_or bytes end 0 ≡ 0 = eqb-true _ _ first.1 in
    let whole : take (end + 1) bytes ≡ take end bytes ++ 0 ∷ [] = take_more bytes end 0 first.0 ∙ ap (λ (b : ℕ). take end bytes ++ b ∷ []) zero in
    let size : length (take end bytes ++ 0 ∷ []) ≡ end + 1 = omega (arith, length-append (take end bytes) (0 ∷ [])) in
    record {
      whole = ap (λ (n : ℕ). take n bytes) size ∙ whole;
      ends = λ k d below at. eqb-false _ _ ((position-Some (λ b. b == 0) bytes end d h).2 k (omega arith)) (sym (get_or-take end bytes k d (omega arith)) ∙ at);
    }

pub no_zero : (bytes : List ℕ) → position (λ b. b == 0) bytes ≡ None → HasNoZero bytes
no_zero bytes h k d below zero =
    elim (cases_lt (position_or_len (λ b. b == 0) bytes) (length bytes)) [
      | inl within ↦ absurd (let test = lt-ltb _ _ within in let e = rw test at h in cc)
      | inr none ↦ eqb-false _ _ (fails_before_first (λ b. b == 0) bytes k d (omega arith)) zero
    ]

pub text_grows : (bytes more text : List ℕ) (at : ℕ) → TextAt bytes at text → TextAt (bytes ++ more) at text
text_grows bytes more text at h = record { whole = stands_grows bytes more (text_bytes text) at h.whole; ends = h.ends }

pub text_new : (bytes text : List ℕ) → HasNoZero text → TextAt (bytes ++ text_bytes text) (length bytes) text
text_new bytes text ends = record { whole = stands_new bytes (text_bytes text); ends = ends }

-- The places at the blocks' ends, and the first zero from a place on.
use Rattle.std.proofs.Common.{◌≡◌, ℕ, zero, suc, ◌+◌, ◌-◌, ◌*◌, ◌/◌, ◌<◌, ◌≤◌, ◌==◌, min, Bool, true, false, cond, not, eqb, List, [], ◌∷◌, ◌++◌, length, get_or, take, drop, Some, None, position, sym, ap, subst, ◌∙◌, arith, inl, inr, length-take-le, length-drop, get_or-take, drop-drop, ◌%◌, ◌^◌, ◌⊎◌}
use Rattle.std.specs.List.{position_or_len}
use Rattle.std.proofs.lemmas.Bool.{cases_lt, ne_eqb, eq-eqb}
use Rattle.std.proofs.lemmas.List.{drop_all, length_push, get_or_push, get_or_append_left}
use Rattle.std.proofs.lemmas.List.Quantifiers.{position-Some}
use Rattle.std.proofs.lemmas.List.Sums.{prefix_len-drop_yes, prefix_len-drop_no, position_or_len_is}
use Rattle.std.proofs.lemmas.Nat.Bits.{bit_at-zero}
use Rattle.md_heaps.proofs.TextLaws.{no_zero}
use Rattle.strings_heap.specs.declared.place.Place.{Place}
use Rattle.strings_heap.specs.Places.{IsPlace, ArePlaces, first_zero}
use Rattle.strings_heap.specs.Texts.{mark, begins_text}

-- ---- a place

pub end_place : (bytes : List ℕ) (place : Place) → place.marks ≡ 0 → place.zero ≡ length bytes → IsPlace bytes (length bytes) place
end_place bytes place none end = record {
  marks = λ k below.
      ap (λ (n : ℕ). n / 2 ^ k % 2) none ∙ bit_at-zero k ∙ sym (ap (λ (x : List ℕ). mark (begins_text x)) (drop_all (length bytes + k) bytes (omega arith)));
  zero = end ∙ omega (arith, ap (position_or_len (λ b. b == 0)) (drop_all (length bytes) bytes (omega arith)));
}

pub first_zero-here : (bytes : List ℕ) (at : ℕ) → at < length bytes → get_or bytes at 0 ≡ 0 → at ≡ first_zero bytes at
first_zero-here bytes at within zero_there =
    let test : not (eqb (get_or bytes at 0) 0) ≡ false = ap not (eq-eqb _ _ zero_there) in
    omega (arith, prefix_len-drop_no (λ b. not (b == 0)) bytes at 0 within test)

pub first_zero-behind : (bytes : List ℕ) (at : ℕ) → at < length bytes → (get_or bytes at 0 ≡ 0 → ⊥) → first_zero bytes (at + 1) ≡ first_zero bytes at
first_zero-behind bytes at within other =
    let test : not (eqb (get_or bytes at 0) 0) ≡ true = ap not (ne_eqb _ _ other) in
    omega (arith, prefix_len-drop_yes (λ b. not (b == 0)) bytes at 0 within test)

-- ---- the pass

-- the places from the heap's end to a block's start, with the place there
pub record Passed (bytes : List ℕ) (places : List Place) (at : ℕ) (place : Place) : Type 0 where
  pub within : at ≤ length bytes
  pub here : IsPlace bytes at place
  pub count : length places + (at + 63) / 64 ≡ (length bytes + 63) / 64 + 1
  pub each : (p : ℕ) (d : Place) → p < length places → IsPlace bytes (min (64 * ((length bytes + 63) / 64 - p)) (length bytes)) (get_or places p d)

pub passed_first : (bytes : List ℕ) (places : List Place) (place : Place) → places ≡ place ∷ [] → IsPlace bytes (length bytes) place → Passed bytes places (length bytes) place
passed_first bytes places place is h = subst (λ (x : List Place). Passed bytes x (length bytes) place) (sym is) (record {
  within = omega arith;
  here = h;
  count = omega arith;
  each = first;
})
  where
    first : (p : ℕ) (d : Place) → p < 1 → IsPlace bytes (min (64 * ((length bytes + 63) / 64 - p)) (length bytes)) (get_or (place ∷ []) p d)
    first zero d below =
        let end : length bytes ≡ min (64 * ((length bytes + 63) / 64 - 0)) (length bytes) = omega arith in
        subst (λ (n : ℕ). IsPlace bytes n place) end h
    first (suc p) d below = absurd (omega (arith, below))

pub passed_more : (bytes : List ℕ) (places more : List Place) (at start : ℕ) (old place : Place) → Passed bytes places at old → 0 < at → start ≡ (at - 1) / 64 * 64
    → IsPlace bytes start place → more ≡ places ++ place ∷ [] → Passed bytes more start place
passed_more bytes places more at start old place h some is here grown = subst (λ (x : List Place). Passed bytes x start place) (sym grown) (record {
  within = omega (arith, h.within, is);
  here = here;
  count = omega (arith, h.count, is, some, length_push places place);
  each = λ p d below. by p d below (cases_lt p (length places));
})
  where
    by : (p : ℕ) (d : Place) → p < length (places ++ place ∷ []) → (p < length places) ⊎ (length places ≤ p)
        → IsPlace bytes (min (64 * ((length bytes + 63) / 64 - p)) (length bytes)) (get_or (places ++ place ∷ []) p d)
    by p d below (inl old_one) =
        subst (λ (x : Place). IsPlace bytes (min (64 * ((length bytes + 63) / 64 - p)) (length bytes)) x) (sym (get_or_append_left places (place ∷ []) d p old_one)) (h.each p d old_one)
    by p d below (inr new_one) =
        let last : length places ≡ p = omega (arith, below, new_one, length_push places place) in
        let there : start ≡ min (64 * ((length bytes + 63) / 64 - p)) (length bytes) = omega (arith, last, h.count, h.within, is, some) in
        subst (λ (x : Place). IsPlace bytes (min (64 * ((length bytes + 63) / 64 - p)) (length bytes)) x) (sym (get_or_push places place d p last))
        (subst (λ (n : ℕ). IsPlace bytes n place) there here)

pub passed_all : (bytes : List ℕ) (places : List Place) (at : ℕ) (place : Place) → Passed bytes places at place → at ≡ 0 → ArePlaces bytes places
passed_all bytes places at place h none =
    let count : length places ≡ (length bytes + 63) / 64 + 1 = omega (arith, h.count, none) in
    record {
      count = count;
      each = λ block d below.
          (let back : 64 * ((length bytes + 63) / 64 - (length places - 1 - block)) ≡ 64 * block = omega (arith, count, below) in
          subst (λ (n : ℕ). IsPlace bytes (min n (length bytes)) (get_or places (length places - 1 - block) d)) back (h.each (length places - 1 - block) d (omega (arith, below))));
    }

-- ---- the first zero, by a scan of the rest of a block

pub first_zero-found : (bytes : List ℕ) (at stop count : ℕ) → at ≤ stop → stop ≤ length bytes → position (λ b. b == 0) (take (stop - at) (drop at bytes)) ≡ Some count
    → at + count ≡ first_zero bytes at
first_zero-found bytes at stop count order within found =
    let rest : List ℕ = drop at bytes in
    let first = position-Some (λ b. b == 0) (take (stop - at) rest) count 0 found in
    let long : length (take (stop - at) rest) ≡ stop - at = length-take-le (stop - at) rest (omega (arith, order, within, length-drop at bytes)) in
    let here : count < stop - at = omega (arith, first.0, long) in
    let is : position_or_len (λ b. b == 0) rest ≡ count =
    position_or_len_is (λ b. b == 0) rest count 0 (omega (arith, here, within, length-drop at bytes))
    (λ k below. ap (λ (b : ℕ). b == 0) (sym (get_or-take (stop - at) rest k 0 (omega (arith, below, here)))) ∙ first.2 k below)
    (λ inside. ap (λ (b : ℕ). b == 0) (sym (get_or-take (stop - at) rest count 0 here)) ∙ first.1) in
    omega (arith, is)

skipped : (n : ℕ) (bytes : List ℕ) → n ≤ length bytes → ((k : ℕ) → k < n → eqb (get_or bytes k 0) 0 ≡ false) → position_or_len (λ b. b == 0) bytes ≡ n + position_or_len (λ b. b == 0) (drop n bytes)
skipped zero bytes l h = omega arith
skipped (suc n) [] l h = absurd (omega (arith, l))
skipped (suc n) (b ∷ bytes) l h =
    let test : eqb b 0 ≡ false = h 0 (omega arith) in
    let inner = skipped n bytes (omega (arith, l)) (λ k below. h (suc k) (omega (arith, below))) in
    let more : 1 + position_or_len (λ x. x == 0) bytes ≡ suc n + position_or_len (λ x. x == 0) (drop n bytes) = omega (arith, inner) in
    ap (λ (t : Bool). cond (not t) (1 + position_or_len (λ x. x == 0) bytes) 0) test ∙ more

pub first_zero-later : (bytes : List ℕ) (at stop : ℕ) → at ≤ stop → stop ≤ length bytes → position (λ b. b == 0) (take (stop - at) (drop at bytes)) ≡ None
    → first_zero bytes stop ≡ first_zero bytes at
first_zero-later bytes at stop order within none =
    let rest : List ℕ = drop at bytes in
    let size : ℕ = stop - at in
    let fits : size ≤ length rest = omega (arith, order, within, length-drop at bytes) in
    let long : length (take size rest) ≡ size = length-take-le size rest fits in
    let is = skipped size rest fits (λ k below.
    ne_eqb _ _ (λ e. no_zero (take size rest) none k 0 (omega (arith, below, long)) (get_or-take size rest k 0 below ∙ e))) in
    let there : drop size rest ≡ drop stop bytes = drop_twice in
    omega (arith, is, ap (position_or_len (λ b. b == 0)) there, order)
  where
    drop_twice : drop (stop - at) (drop at bytes) ≡ drop stop bytes
    drop_twice = let e : at + (stop - at) ≡ stop = omega (arith, order) in drop-drop (stop - at) at bytes ∙ ap (λ (n : ℕ). drop n bytes) e

-- ---- the steps of one block

pub record Walked (bytes : List ℕ) (start at : ℕ) (place : Place) : Type 0 where
  pub order : start ≤ at
  pub within : at ≤ length bytes
  pub here : IsPlace bytes at place

-- Whether a text begins at a place, as the pass and the look-up find it.
use Rattle.std.proofs.Common.{◌≡◌, ℕ, ◌+◌, ◌-◌, ◌*◌, ◌/◌, ◌%◌, ◌<◌, ◌≤◌, min, Bool, true, false, MatchBool, List, ◌∷◌, length, get_or, take, drop, sym, ap, subst, ◌∙◌, arith, get_or-drop, drop-drop}
use Rattle.std.specs.Int.{bit_at}
use Rattle.std.specs.Str.{IsUtf8, continuation_len}
use Rattle.std.proofs.lemmas.Bool.{MatchBool-at_true, MatchBool-at_false, false_from_ne_true}
use Rattle.std.proofs.lemmas.List.{drop_more}
use Rattle.strings_heap.specs.declared.place.Place.{Place}
use Rattle.strings_heap.specs.Places.{IsPlace, ArePlaces}
use Rattle.strings_heap.specs.Texts.{mark, begins_text, AreMarks}
use Rattle.strings_heap.proofs.MarkLaws.{same_marks}
use Rattle.strings_heap.proofs.TextLaws.{begins_text-zero, begins_text-ascii, begins_text-whole, begins_text-wide}

pub begins_zero : (bytes : List ℕ) (at : ℕ) → at < length bytes → get_or bytes at 0 ≡ 0 → true ≡ begins_text (drop at bytes)
begins_zero bytes at within e =
    sym (ap begins_text (drop_more bytes at 0 within ∙ ap (λ (b : ℕ). b ∷ drop (at + 1) bytes) e) ∙ begins_text-zero (drop (at + 1) bytes))

pub begins_ascii : (bytes : List ℕ) (at behind : ℕ) (here : Bool) → at < length bytes → AreMarks bytes (at + 1) behind → 0 < get_or bytes at 0 → get_or bytes at 0 < 128
    → mark here ≡ bit_at behind 0 → here ≡ begins_text (drop at bytes)
begins_ascii bytes at behind here within marks some low e =
    let next : at + 1 + 0 ≡ at + 1 = omega arith in
    same_marks here (begins_text (drop (at + 1 + 0) bytes)) (e ∙ marks 0 (omega arith))
    ∙ ap (λ (n : ℕ). begins_text (drop n bytes)) next
    ∙ sym (ap begins_text (drop_more bytes at 0 within) ∙ begins_text-ascii (get_or bytes at 0) (drop (at + 1) bytes) some low)

lead_is : (bytes : List ℕ) (at : ℕ) → get_or (drop at bytes) 0 0 ≡ get_or bytes at 0
lead_is bytes at = let e : at + 0 ≡ at = omega arith in get_or-drop at bytes 0 0 ∙ ap (λ (n : ℕ). get_or bytes n 0) e

abbrev Whole : List ℕ → ℕ → Type 0
Whole tail size = (size ≤ length tail) × IsUtf8 (take size tail)

pub begins_wide : (bytes tail : List ℕ) (at size behind : ℕ) (found here : Bool) → tail ≡ drop at bytes → AreMarks bytes (at + 1) behind → 128 ≤ get_or bytes at 0
    → size ≡ continuation_len (get_or bytes at 0) + 1 → size ≤ 4 → MatchBool found ((size ≤ length tail) × IsUtf8 (take size tail)) (¬ ((size ≤ length tail) × IsUtf8 (take size tail)))
    → found ≡ true → mark here ≡ bit_at behind (size - 1) → here ≡ begins_text (drop at bytes)
begins_wide bytes tail at size behind found here same marks wide is few cases test e =
    let whole : Whole (drop at bytes) size = subst (λ (x : List ℕ). Whole x size) same (MatchBool-at_true (Whole tail size) (¬ (Whole tail size)) test cases) in
    let lead = lead_is bytes at in
    let next : at + 1 + (size - 1) ≡ at + size = omega (arith, is) in
    same_marks here (begins_text (drop (at + 1 + (size - 1)) bytes)) (e ∙ marks (size - 1) (omega (arith, few)))
    ∙ ap (λ (n : ℕ). begins_text (drop n bytes)) next
    ∙ sym (begins_text-wide (drop at bytes) size (is ∙ ap (λ (n : ℕ). continuation_len n + 1) (sym lead)) (omega (arith, lead, wide)) whole.0 whole.1 ∙ ap begins_text (drop-drop size at bytes))

pub begins_none : (bytes tail : List ℕ) (at size : ℕ) (found : Bool) → tail ≡ drop at bytes → 128 ≤ get_or bytes at 0 → size ≡ continuation_len (get_or bytes at 0) + 1
    → MatchBool found ((size ≤ length tail) × IsUtf8 (take size tail)) (¬ ((size ≤ length tail) × IsUtf8 (take size tail))) → found ≡ false → false ≡ begins_text (drop at bytes)
begins_none bytes tail at size found same wide is cases test =
    let none : ¬ (Whole tail size) = MatchBool-at_false (Whole tail size) (¬ (Whole tail size)) test cases in
    let lead = lead_is bytes at in
    sym (false_from_ne_true (begins_text (drop at bytes)) (λ h.
    none (subst (λ (x : List ℕ). Whole x size) (sym same) (begins_text-whole (drop at bytes) size (is ∙ ap (λ (n : ℕ). continuation_len n + 1) (sym lead)) (omega (arith, lead, wide)) h))))

-- ---- by the places

pub place_there : (bytes : List ℕ) (places : List Place) (block : ℕ) (place : Place) → ArePlaces bytes places → block < length places
    → place ≡ get_or places (length places - 1 - block) place → IsPlace bytes (min (64 * block) (length bytes)) place
place_there bytes places block place h below e = subst (λ (x : Place). IsPlace bytes (min (64 * block) (length bytes)) x) (sym e) (h.each block place below)

pub begins_marked : (bytes : List ℕ) (places : List Place) (at : ℕ) (place : Place) (here : Bool) → ArePlaces bytes places → at < length bytes
    → place ≡ get_or places (length places - 1 - at / 64) place → mark here ≡ bit_at place.marks (at % 64) → here ≡ begins_text (drop at bytes)
begins_marked bytes places at place here h within e marked =
    let there = place_there bytes places (at / 64) place h (omega (arith, h.count, within)) e in
    let back : min (64 * (at / 64)) (length bytes) + at % 64 ≡ at = omega (arith, within) in
    same_marks here (begins_text (drop (min (64 * (at / 64)) (length bytes) + at % 64) bytes)) (marked ∙ there.marks (at % 64) (omega arith)) ∙ ap (λ (n : ℕ). begins_text (drop n bytes)) back

-- What is read at an index, by where texts begin and end.
use Rattle.std.proofs.Common.{◌≡◌, ℕ, ◌-◌, ◌<◌, ◌≤◌, Bool, true, false, cond, List, length, take, drop, Option, Some, None, Ok, Err, refl, sym, ap, subst, ◌∙◌, arith, length-drop}
use Rattle.std.specs.Str.{is_utf8, IsUtf8}
use Rattle.std.proofs.lemmas.Bool.{lt-ltb, le-ltb}
use Rattle.std.proofs.lemmas.Str.{is_utf8-from_IsUtf8}
use Rattle.md_heaps.specs.Faults.{past_heap, HeapText}
use Rattle.md_heaps.specs.Reading.{until_zero, ended, text_at}
use Rattle.md_schema.specs.Faults.{fault_at}
use Rattle.strings_heap.specs.Places.{first_zero}
use Rattle.strings_heap.specs.Texts.{begins_text, is_ended_text}
use Rattle.strings_heap.proofs.TextLaws.{begun, until_stands}

-- an index past the heap
pub text_at-past : (heap : List ℕ) (at : ℕ) → length heap ≤ at → text_at heap at ≡ Err past_heap
text_at-past heap at past = rw (le-ltb at (length heap) past) refl

not_ended : (at : ℕ) (o : Option (List ℕ)) → is_ended_text o ≡ false → ended at o ≡ Err (fault_at HeapText at)
not_ended at None h = refl
not_ended at (Some text) h = ap (λ (t : Bool). cond t (Ok text) (Err (fault_at HeapText at))) h

-- no text begins there
pub text_at-none : (heap : List ℕ) (at : ℕ) → at < length heap → begins_text (drop at heap) ≡ false → text_at heap at ≡ Err (fault_at HeapText at)
text_at-none heap at within none = rw (lt-ltb at (length heap) within) (not_ended at (until_zero (drop at heap)) none)

-- the text that begins there
pub record Text (heap : List ℕ) (at : ℕ) : Type 0 where
  pub order : at ≤ first_zero heap at
  pub within : first_zero heap at ≤ length heap
  pub utf8 : IsUtf8 (take (first_zero heap at - at) (drop at heap))
  pub is : text_at heap at ≡ Ok (take (first_zero heap at - at) (drop at heap))

pub text_at-some : (heap : List ℕ) (at : ℕ) → at < length heap → begins_text (drop at heap) ≡ true → Text heap at
text_at-some heap at inside h =
    let there = begun (drop at heap) h in
    let stands = until_stands (drop at heap) there.text there.is in
    let size : first_zero heap at - at ≡ length there.text = omega (arith, stands.count) in
    let same : take (first_zero heap at - at) (drop at heap) ≡ there.text = ap (λ (n : ℕ). take n (drop at heap)) size ∙ stands.front in
    let test : is_utf8 there.text ≡ true = is_utf8-from_IsUtf8 there.text there.utf8 in
    let found : ended at (until_zero (drop at heap)) ≡ Ok there.text = ap (ended at) there.is ∙ ap (λ (t : Bool). cond t (Ok there.text) (Err (fault_at HeapText at))) test in
    record {
      order = omega arith;
      within = omega (arith, stands.count, stands.within, length-drop at heap, inside);
      utf8 = subst IsUtf8 (sym same) there.utf8;
      is = rw (lt-ltb at (length heap) inside) (found ∙ ap (λ (x : List ℕ). Ok x) (sym same));
    }

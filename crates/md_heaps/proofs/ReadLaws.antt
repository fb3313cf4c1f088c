-- What stands at an index is what is read there.
use Rattle.std.proofs.Common.{◌≡◌, ℕ, zero, suc, ◌+◌, ◌-◌, ◌^◌, ◌<◌, ◌≤◌, Bool, true, false, cond, ltb, List, [], ◌∷◌, ◌++◌, length, take, drop, Option, Some, None, Result, Ok, Err, refl, sym, ap, subst, ◌∙◌, arith, length-append, append_assoc, length-drop, drop-drop, inl, inr}
use Rattle.std.specs.Prelude.{slice_index}
use Rattle.std.specs.Str.{is_utf8, IsUtf8}
use Rattle.std.proofs.lemmas.Bool.{cases_lt, lt-ltb, le-ltb, ltb-false}
use Rattle.std.proofs.lemmas.List.{length-take, length-take-le, take_at, drop_at, take-append-drop}
use Rattle.std.proofs.lemmas.Str.{IsUtf8-from_is_utf8, is_utf8-from_IsUtf8}
use Rattle.byteorder.specs.Endian.{big_number}
use Rattle.md_heaps.specs.Blobs.{BlobAt, BlobHere, blob_bytes}
use Rattle.md_heaps.specs.Faults.{ImageFault, past_heap, HeapText, BadLead, BadLength}
use Rattle.md_schema.specs.Faults.{fault_at}
use Rattle.md_heaps.specs.Heaps.{Heap, StandsAt, EachStands, index_of}
use Rattle.md_heaps.specs.Integers.{compressed_of, in_bytes, shortest}
use Rattle.md_heaps.specs.Reading.{until_zero, longer, ended, text_at, behind_length, found_at, blob_at}
use Rattle.md_heaps.specs.Texts.{TextAt, HasNoZero, text_bytes}
use Rattle.md_heaps.proofs.BlobLaws.{shortest_read, here_grows}
use Rattle.md_heaps.proofs.TextLaws.{text_grows}

-- what stands at a place, and what stands behind it
pub behind_part : (bytes part : List ℕ) (place : ℕ) → StandsAt bytes place part → drop place bytes ≡ part ++ drop (length part) (drop place bytes)
behind_part bytes part place h = sym (take-append-drop (length part) (drop place bytes)) ∙ ap (λ (x : List ℕ). x ++ drop (length part) (drop place bytes)) h

-- what stands at a place, and isn't empty, stands within
pub part_within : (bytes part : List ℕ) (place : ℕ) → StandsAt bytes place part → 0 < length part → place < length bytes
part_within bytes part place h some = omega (arith, length-take (length part) (drop place bytes), ap length h, length-drop place bytes, some)

-- ---- texts

after_first : (b : ℕ) (bytes : List ℕ) → HasNoZero (b ∷ bytes) → HasNoZero bytes
after_first b bytes h k d below = h (suc k) d (omega (arith, below))

pub until_text : (text rest : List ℕ) → HasNoZero text → until_zero (text ++ 0 ∷ rest) ≡ Some text
until_text [] rest h = refl
until_text (zero ∷ text) rest h = absurd (h 0 0 (omega arith) refl)
until_text (suc b ∷ text) rest h = ap (longer (suc b)) (until_text text rest (after_first (suc b) text h))

pub until_none : (bytes : List ℕ) → HasNoZero bytes → until_zero bytes ≡ None
until_none [] h = refl
until_none (zero ∷ bytes) h = absurd (h 0 0 (omega arith) refl)
until_none (suc b ∷ bytes) h = ap (longer (suc b)) (until_none bytes (after_first (suc b) bytes h))

text_ends : (heap : List ℕ) (at : ℕ) (text : List ℕ) → TextAt heap at text → until_zero (drop at heap) ≡ Some text
text_ends heap at text h =
    let rest : List ℕ = drop (length (text_bytes text)) (drop at heap) in
    let is : drop at heap ≡ text ++ 0 ∷ rest = behind_part heap (text_bytes text) at h.whole ∙ append_assoc text (0 ∷ []) rest in
    rw is (until_text text rest h.ends)

text_within : (heap : List ℕ) (at : ℕ) (text : List ℕ) → TextAt heap at text → at < length heap
text_within heap at text h = part_within heap (text_bytes text) at h.whole (omega (arith, length-append text (0 ∷ [])))

-- a text in UTF-8 is read
pub text_reads : (heap : List ℕ) (at : ℕ) (text : List ℕ) → TextAt heap at text → IsUtf8 text → text_at heap at ≡ Ok text
text_reads heap at text h utf8 = rw (lt-ltb _ _ (text_within heap at text h), text_ends heap at text h, is_utf8-from_IsUtf8 text utf8) refl

-- one that isn't UTF-8 is a fault
pub text_broken : (heap : List ℕ) (at : ℕ) (text : List ℕ) → TextAt heap at text → ¬ (IsUtf8 text) → text_at heap at ≡ Err (fault_at HeapText at)
text_broken heap at text h broken = rw (lt-ltb _ _ (text_within heap at text h), text_ends heap at text h) (by (is_utf8 text) refl)
  where
    by : (b : Bool) → is_utf8 text ≡ b → cond b (Ok text) (Err (fault_at HeapText at)) ≡ Err (fault_at HeapText at)
    by true e = absurd (broken (IsUtf8-from_is_utf8 text e))
    by false e = refl

-- and so is one without an end
pub text_missing : (heap : List ℕ) (at : ℕ) → at < length heap → HasNoZero (drop at heap) → text_at heap at ≡ Err (fault_at HeapText at)
text_missing heap at within none = rw (lt-ltb _ _ within, until_none (drop at heap) none) refl

no_bytes : HasNoZero []
no_bytes k d below = absurd (omega (arith, below))

more_bytes : (b : ℕ) (text : List ℕ) → HasNoZero text → HasNoZero (suc b ∷ text)
more_bytes b text h zero d below e = absurd (omega (arith, e))
more_bytes b text h (suc k) d below e = h k d (omega (arith, below)) e

-- the bytes before the first zero, and that zero
pub record Begins (bytes text : List ℕ) : Type 0 where
  pub rest : List ℕ
  pub split : bytes ≡ text ++ 0 ∷ rest
  pub ends : HasNoZero text

until_splits : (bytes text : List ℕ) → until_zero bytes ≡ Some text → Begins bytes text
until_splits [] text h = absurd cc
until_splits (zero ∷ bytes) [] h = record { rest = bytes; split = refl; ends = no_bytes }
until_splits (zero ∷ bytes) (b ∷ text) h = absurd cc
until_splits (suc b ∷ bytes) text h = by (until_zero bytes) refl (λ more e. until_splits bytes more e) h
  where
    by : (o : Option (List ℕ)) → until_zero bytes ≡ o → ((more : List ℕ) → until_zero bytes ≡ Some more → Begins bytes more) → longer (suc b) o ≡ Some text → Begins (suc b ∷ bytes) text
    by None e further l = absurd cc
    by (Some more) e further l =
        let is : suc b ∷ more ≡ text = cc in
        let inner = further more e in
        subst (λ (t : List ℕ). Begins (suc b ∷ bytes) t) is (record { rest = inner.rest; split = ap (λ (x : List ℕ). suc b ∷ x) inner.split; ends = more_bytes b more inner.ends })

-- what is read is a text there, in UTF-8
pub text_stands : (heap : List ℕ) (at : ℕ) (text : List ℕ) → text_at heap at ≡ Ok text → TextAt heap at text × IsUtf8 text
text_stands heap at text h = by (ltb at (length heap)) (until_zero (drop at heap)) refl h
  where
    utf8 : (found : List ℕ) (b : Bool) → is_utf8 found ≡ b → until_zero (drop at heap) ≡ Some found → cond b (Ok found) (Err (fault_at HeapText at)) ≡ Ok text → TextAt heap at text × IsUtf8 text
    utf8 found false u e l = absurd cc
    utf8 found true u e l =
        let is : found ≡ text = cc in
        let s = until_splits (drop at heap) found e in
        let whole : take (length (text_bytes found)) (drop at heap) ≡ text_bytes found =
        ap (take (length (text_bytes found))) (s.split ∙ sym (append_assoc found (0 ∷ []) s.rest)) ∙ take_at (text_bytes found) s.rest (length (text_bytes found)) refl in
        subst (λ (t : List ℕ). TextAt heap at t × IsUtf8 t) is (record { whole = whole; ends = s.ends }, IsUtf8-from_is_utf8 found u)

    by : (b : Bool) (o : Option (List ℕ)) → until_zero (drop at heap) ≡ o → cond b (ended at o) (Err past_heap) ≡ Ok text → TextAt heap at text × IsUtf8 text
    by false o e l = absurd cc
    by true None e l = absurd cc
    by true (Some found) e l = utf8 found (is_utf8 found) refl e l

-- ---- blobs

as_pair : Result (ℕ × ℕ) ImageFault → ℕ
as_pair (Ok p) = p.1
as_pair (Err fault) = 0

second : (a b c d : ℕ) (r : Result (ℕ × ℕ) ImageFault) → r ≡ Ok (a, b) → r ≡ Ok (c, d) → d ≡ b
unfolding as_pair
second a b c d r x y = ap as_pair (sym y ∙ x)

in_bytes_within : (size lead : ℕ) (bytes : List ℕ) (value count : ℕ) → in_bytes size lead bytes ≡ Ok (value, count) → (count ≡ size) × (size ≤ length bytes)
in_bytes_within size lead bytes value count h =
    elim (cases_lt (length bytes) size) [
      | inl cut ↦ absurd (let test = lt-ltb _ _ cut in let e = rw test at h in cc)
      | inr enough ↦ (let short : ltb (length bytes) size ≡ false = le-ltb _ _ enough in (second (big_number size bytes - lead) size value count (in_bytes size lead bytes) (rw short refl) h, enough))
    ]

-- an integer that is read takes some bytes, which are there
pub compressed_within : (bytes : List ℕ) (value size : ℕ) → compressed_of bytes ≡ Ok (value, size) → (0 < size) × (size ≤ length bytes)
compressed_within bytes value size h = by (ltb (slice_index bytes 0) 0x80) (ltb (slice_index bytes 0) 0xC0) (ltb (slice_index bytes 0) 0xE0) h
  where
    some : (n lead : ℕ) → 0 < n → in_bytes n lead bytes ≡ Ok (value, size) → (0 < size) × (size ≤ length bytes)
    some n lead more e = let w = in_bytes_within n lead bytes value size e in (omega (arith, w.0, more), omega (arith, w.0, w.1))

    by : (x y z : Bool)
        → cond x (in_bytes 1 0 bytes) (cond y (in_bytes 2 0x8000 bytes) (cond z (in_bytes 4 0xC0000000 bytes) (Err (fault_at BadLead 0)))) ≡ Ok (value, size)
        → (0 < size) × (size ≤ length bytes)
    by true y z e = some 1 0 (omega arith) e
    by false true z e = some 2 0x8000 (omega arith) e
    by false false true e = some 4 0xC0000000 (omega arith) e
    by false false false e = absurd cc

-- a blob behind a length of any form is read
pub blob_reads : (heap : List ℕ) (at : ℕ) (blob : List ℕ) → BlobAt heap at blob → blob_at heap at ≡ Ok blob
blob_reads heap at blob h =
    let lead = compressed_within (drop at heap) (length blob) h.size h.lead in
    let within : at < length heap = omega (arith, lead, length-drop at heap) in
    let enough : at + h.size + length blob ≤ length heap =
    omega (arith, lead, length-drop at heap, length-drop (at + h.size) heap, length-take (length blob) (drop (at + h.size) heap), ap length h.whole) in
    rw (lt-ltb _ _ within, h.lead, le-ltb (length heap) (at + h.size + length blob) enough) (ap (λ (x : List ℕ). Ok x) h.whole)

-- what is read stands there, behind its length
pub blob_stands : (heap : List ℕ) (at : ℕ) (blob : List ℕ) → blob_at heap at ≡ Ok blob → BlobAt heap at blob
blob_stands heap at blob h = by (ltb at (length heap)) (compressed_of (drop at heap)) refl h
  where
    behind : (count size : ℕ) (b : Bool) → ltb (length heap) (at + size + count) ≡ b → compressed_of (drop at heap) ≡ Ok (count, size)
        → cond b (Err (fault_at BadLength at)) (Ok (take count (drop (at + size) heap))) ≡ Ok blob → BlobAt heap at blob
    behind count size true t e l = absurd cc
    behind count size false t e l =
        let is : take count (drop (at + size) heap) ≡ blob = cc in
        let enough : at + size + count ≤ length heap = ltb-false _ _ t in
        let long : length (take count (drop (at + size) heap)) ≡ count = length-take-le count (drop (at + size) heap) (omega (arith, enough, length-drop (at + size) heap)) in
        let count_is : count ≡ length blob = sym long ∙ ap length is in
        record {
          size = size;
          lead = e ∙ ap (λ (n : ℕ). Ok (n, size)) count_is;
          whole = ap (λ (n : ℕ). take n (drop (at + size) heap)) (sym count_is) ∙ is;
        }

    by : (b : Bool) (o : Result (ℕ × ℕ) ImageFault) → compressed_of (drop at heap) ≡ o → cond b (behind_length heap at (found_at at o)) (Err past_heap) ≡ Ok blob → BlobAt heap at blob
    by false o e l = absurd cc
    by true (Err fault) e l = absurd cc
    by true (Ok found) e l = behind found.0 found.1 (ltb (length heap) (at + found.1 + found.0)) refl e l

-- a blob that is written is read
pub blob_here_reads : (heap : List ℕ) (at : ℕ) (blob : List ℕ) → length blob < 2 ^ 29 → BlobHere heap at blob → blob_at heap at ≡ Ok blob
blob_here_reads heap at blob small h =
    let lead : List ℕ = shortest (length blob) in
    let rest : List ℕ = drop (length (blob_bytes blob)) (drop at heap) in
    let is : drop at heap ≡ lead ++ (blob ++ rest) = behind_part heap (blob_bytes blob) at h ∙ append_assoc lead blob rest in
    let behind : drop (at + length lead) heap ≡ blob ++ rest =
    sym (drop-drop (length lead) at heap) ∙ ap (drop (length lead)) is ∙ drop_at lead (blob ++ rest) (length lead) refl in
    blob_reads heap at blob (record {
      size = length lead;
      lead = ap compressed_of is ∙ shortest_read (length blob) (blob ++ rest) small;
      whole = ap (take (length blob)) behind ∙ take_at blob rest (length blob) refl;
    })

-- ---- what was interned

pub interned_text : (heap : Heap) (more : List ℕ) (at : ℕ) (text : List ℕ) → EachStands TextAt heap → index_of heap text ≡ Some at → IsUtf8 text → text_at (heap.bytes ++ more) at ≡ Ok text
interned_text heap more at text each found utf8 = text_reads (heap.bytes ++ more) at text (text_grows heap.bytes more text at (each text at found)) utf8

pub interned_blob : (heap : Heap) (more : List ℕ) (at : ℕ) (blob : List ℕ) → EachStands BlobHere heap → index_of heap blob ≡ Some at → length heap.bytes < 2 ^ 29 → blob_at (heap.bytes ++ more) at ≡ Ok blob
interned_blob heap more at blob each found small =
    let here = each blob at found in
    let long : length (blob_bytes blob) ≤ length heap.bytes = omega (arith, length-take (length (blob_bytes blob)) (drop at heap.bytes), ap length here, length-drop at heap.bytes) in
    let short : length blob < 2 ^ 29 = omega (arith, long, length-append (shortest (length blob)) blob, small) in
    blob_here_reads (heap.bytes ++ more) at blob short (here_grows heap.bytes more blob at here)

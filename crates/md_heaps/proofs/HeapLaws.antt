-- What was interned stands at its index, also once a heap has grown.
use Rattle.std.proofs.Common.{◌≡◌, ℕ, ◌≤◌, Bool, true, false, cond, List, [], ◌∷◌, ◌++◌, length, take, drop, Some, None, refl, sym, ap, subst, ◌∙◌, arith, length-drop, take-take}
use Rattle.std.proofs.lemmas.List.{take-append-le, drop-append-le, length-take}
use Rattle.std.proofs.Math.Seq.{drop-append_seam, take-append_seam}
use Rattle.std.proofs.lemmas.Grind.{common_steps}
use Rattle.std.specs.Ordering.{nat_cmp}
use Rattle.std.specs.Cmp.Lexicographic.{slice_cmp, nat_list_cmp_total}
use Rattle.std.specs.Prelude.{bytes_eq}
use Rattle.std.specs.FinMap.{get, empty, get-insert, get-empty}
use Rattle.std.proofs.lemmas.Slice.Eq.{bytes_eq-Decides}
use Rattle.md_heaps.specs.Heaps.{Heap, Indices, index_of, with_entry, StandsAt, EachStands, Keeps}
use Rattle.md_heaps.proofs.IndexLaws.{eq_by_cmp-bytes_eq}

-- a part that stands in some bytes stands in them with more behind
pub stands_grows : (bytes more part : List ℕ) (place : ℕ) → StandsAt bytes place part → StandsAt (bytes ++ more) place part
stands_grows bytes more [] place stands = refl
stands_grows bytes more (x ∷ part) place stands =
    let long : length (x ∷ part) ≤ length (drop place bytes) = omega (arith, length-take (length (x ∷ part)) (drop place bytes), ap length stands) in
    let within : place ≤ length bytes = omega (arith, length-drop place bytes) in
    rw (drop-append-le place bytes more within, take-append-le (length (x ∷ part)) (drop place bytes) more long) stands

-- what is put at the end stands there
pub stands_new : (bytes part : List ℕ) → StandsAt (bytes ++ part) (length bytes) part
stands_new bytes part = rw (drop-append_seam bytes part) (grind (arith, common_steps))

-- the index of a content in a heap with an entry more
pub index_of-with_entry : (heap : Heap) (content written : List ℕ) (index : ℕ) (other : List ℕ)
    → index_of (with_entry heap content written index) other ≡ cond (bytes_eq other content) (Some index) (index_of heap other)
index_of-with_entry heap content written index other =
    get-insert nat_list_cmp_total heap.entries content index other ∙ ap (λ b. cond b (Some index) (index_of heap other)) (eq_by_cmp-bytes_eq other content)

-- a heap of nothing has no content
pub index_of-nothing : (heap : Heap) (content : List ℕ) → heap.entries ≡ empty → index_of heap content ≡ None
index_of-nothing heap content none = ap (λ (i : Indices). get i content) none ∙ get-empty (slice_cmp nat_cmp) content

-- a heap keeps itself
pub keeps_same : (heap : Heap) → Keeps heap heap
keeps_same heap = record { bytes = grind (arith, common_steps); entries = λ content index h. h }

-- what a heap keeps that keeps another, the first keeps
pub keeps_on : (a b c : Heap) → Keeps a b → Keeps b c → Keeps a c
keeps_on a b c x y = record {
  bytes =
      let longer : length a.bytes ≤ length b.bytes = omega (arith, length-take (length a.bytes) b.bytes, ap length x.bytes) in
      sym (take-take (length a.bytes) (length b.bytes) c.bytes longer) ∙ ap (take (length a.bytes)) y.bytes ∙ x.bytes;
  entries = λ content index h. y.entries content index (x.entries content index h);
}

-- a heap with an entry more, which it lacked, keeps what it had
pub keeps_new : (heap : Heap) (content written : List ℕ) (index : ℕ) → index_of heap content ≡ None → Keeps heap (with_entry heap content written index)
keeps_new heap content written index absent = record {
  bytes = take-append_seam heap.bytes written;
  entries = λ other at h. index_of-with_entry heap content written index other ∙ kept other at (bytes_eq other content) refl h;
}
  where
    kept : (other : List ℕ) (at : ℕ) (b : Bool) → bytes_eq other content ≡ b → index_of heap other ≡ Some at → cond b (Some index) (index_of heap other) ≡ Some at
    kept other at true t h = absurd (let e1 = ap (index_of heap) ((bytes_eq-Decides other content).0 t) in let e2 = sym h ∙ e1 ∙ absent in cc)
    kept other at false t h = h

-- it has the index of that entry
pub found_new : (heap : Heap) (content written : List ℕ) (index : ℕ) → index_of (with_entry heap content written index) content ≡ Some index
found_new heap content written index =
    index_of-with_entry heap content written index content ∙ ap (λ b. cond b (Some index) (index_of heap content)) ((bytes_eq-Decides content content).1 refl)

module _ (At : List ℕ → ℕ → List ℕ → Type 0) where
  pub nothing_stands : (heap : Heap) → heap.entries ≡ empty → EachStands At heap
  nothing_stands heap none content index h = absurd (let never = sym h ∙ index_of-nothing heap content none in cc)

  module _ (grows : (bytes more content : List ℕ) (index : ℕ) → At bytes index content → At (bytes ++ more) index content) where
    -- each entry stands also with one more
    pub stands_with : (heap : Heap) (content written : List ℕ) (index : ℕ) → EachStands At heap → At (heap.bytes ++ written) index content
        → EachStands At (with_entry heap content written index)
    stands_with heap content written index each stands other at h =
        by other at (bytes_eq other content) refl (sym (index_of-with_entry heap content written index other) ∙ h)
      where
        by : (other : List ℕ) (at : ℕ) (b : Bool) → bytes_eq other content ≡ b → cond b (Some index) (index_of heap other) ≡ Some at → At (heap.bytes ++ written) at other
        by other at true t h =
            let same : index ≡ at = cc in
            subst (λ (text : List ℕ). At (heap.bytes ++ written) at text) (sym ((bytes_eq-Decides other content).0 t)) (subst (λ (n : ℕ). At (heap.bytes ++ written) n content) same stands)
        by other at false t h = grows heap.bytes written other at (each other at h)

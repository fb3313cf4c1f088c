use Rattle.std.proofs.Common.{◌≡◌, ◌∙◌, ℕ, ◌+◌, ◌<◌, ◌≤◌, List, length, take, drop, Result, Ok, sym, ap, arith, refl}
use Rattle.std.proofs.lemmas.Bool.{lt-ltb, le-ltb}
use Rattle.md_heaps.specs.Faults.{ImageFault}
use Rattle.md_heaps.specs.Reading as reading
use Rattle.md_heaps.proofs.blobs.blob_at.Goals as goal

-- so many bytes behind the length, which are there
pub whole : (heap : List ℕ) (at count size : ℕ) → at < length heap → reading.compressed_at heap at ≡ Ok (count, size) → at + size + count ≤ length heap
    → reading.blob_at heap at ≡ Ok (take count (drop (at + size) heap))
whole heap at count size within lead enough =
    rw (lt-ltb _ _ within) (ap (λ (r : Result (ℕ × ℕ) ImageFault). reading.behind_length heap at r) lead ∙ rw (le-ltb _ _ enough) refl)

pub returns-in-Some : goal.returns-in-Some
returns-in-Some c = record {
  exact =
      whole c.args.heap.now c.args.at c.in-Ok.count c.in-Ok.size (omega arith) (sym c.compressed_at.ensures.exact ∙ c.in-Ok.is) c.in-Some.ensures.0
      ∙ ap (λ (x : List ℕ). Ok x) (sym c.in-Some.ensures.1);
}

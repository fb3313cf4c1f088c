-- `#Blob` (ECMA-335 II.24.2.4): blobs, each behind its length as a compressed integer.
use Rattle.std.specs.Prelude.{◌≡◌, ℕ, ◌+◌, List, [], ◌∷◌, ◌++◌, length, drop, Ok}
use Rattle.std.specs.FinMap.{insert, empty}
use Rattle.md_heaps.specs.Integers.{compressed_of, shortest}
use Rattle.md_heaps.specs.Heaps.{Heap, StandsAt}

-- a blob behind its length, in the shortest form
abbrev pub blob_bytes : List ℕ → List ℕ
blob_bytes blob = shortest (length blob) ++ blob

-- the blob that is written at the index
abbrev pub BlobHere : List ℕ → ℕ → List ℕ → Type 0
BlobHere heap at blob = StandsAt heap at (blob_bytes blob)

-- at the index stands a length, in any of its forms, and behind it as many bytes, which are these
pub record BlobAt (heap : List ℕ) (at : ℕ) (blob : List ℕ) : Type 0 where
  pub size : ℕ
  pub lead : compressed_of (drop at heap) ≡ Ok (length blob, size)
  pub whole : StandsAt heap (at + size) blob

-- a new heap: the empty blob at 0
abbrev pub first_blob : Heap
first_blob = record { bytes = 0 ∷ []; entries = insert empty [] 0 }

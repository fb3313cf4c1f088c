-- Heaps that hold nothing but what rows say (ECMA-335 II.24.2.3, II.24.2.4).
use Rattle.std.specs.Prelude.{◌≡◌, ◌+◌, ◌<◌, ◌≤◌, ◌⊎◌, ℕ, List, [], Some, length}
use Rattle.std.specs.List.{Contains}
use Rattle.md_heaps.specs.Heaps.{Heap, index_of}
use Rattle.md_schema.specs.declared.table.Table.{Table}
use Rattle.winmd_rows.specs.Values.{Value}
use Rattle.row_writer.specs.Known.{Values}

-- a row has this value
pub record Has (rows : Values) (value : Value) : Type 0 where
  pub table : Table
  pub row : List Value
  pub stands : Contains (rows table) row
  pub says : Contains row value

-- the byte at a place is one of a content that was interned, by how contents are spelled
pub record IsSpelled (spelled : List ℕ → List ℕ) (heap : Heap) (place : ℕ) : Type 0 where
  pub content : List ℕ
  pub index : ℕ
  pub interned : index_of heap content ≡ Some index
  pub from : index ≤ place
  pub below : place < index + length (spelled content)

-- each byte is
abbrev pub Covered : (List ℕ → List ℕ) → Heap → Type 0
Covered spelled heap = (place : ℕ) → place < length heap.bytes → IsSpelled spelled heap place

-- each byte is one of a content that was interned, and each of these but the empty one is said
pub record Tight (spelled : List ℕ → List ℕ) (said : List ℕ → Type 0) (heap : Heap) : Type 0 where
  pub covered : Covered spelled heap
  pub only : (content : List ℕ) (index : ℕ) → index_of heap content ≡ Some index → (content ≡ []) ⊎ said content

-- a heap that grew by what is said alone
pub record Grew (spelled : List ℕ → List ℕ) (said : List ℕ → Type 0) (old new : Heap) : Type 0 where
  pub covered : Covered spelled old → Covered spelled new
  pub only : (content : List ℕ) (index : ℕ) → index_of new content ≡ Some index → (index_of old content ≡ Some index) ⊎ said content

-- Images of rows, and images of declarations.
use Rattle.std.specs.Prelude.{◌≡◌, ◌+◌, ◌<◌, ◌≤◌, ◌⊎◌, ℕ, List, [], length}
use Rattle.md_heaps.specs.Blobs.{blob_bytes}
use Rattle.md_heaps.specs.Texts.{text_bytes}
use Rattle.md_schema.specs.declared.table.Table.{Table}
use Rattle.md_schema.specs.Written.{Fit}
use Rattle.wr_base.specs.Trees.{DeclTree}
use Rattle.winmd_image.specs.Parts.{Small}
use Rattle.winmd_image.specs.Spelled.{image_bytes}
use Rattle.row_writer.specs.Tight.{Has}
use Rattle.winmd_rows.specs.Values.{Value, Text, Blob}
use Rattle.winmd_sets.specs.Rows.{in_order, rows_of}
use Rattle.winmd_strict.specs.Placed.{Placed, parts_with, sizes_of_rows}
use Rattle.winmd_strict.specs.Strict.{Strict}

-- the image of rows as numbers and of two heaps, which has room for them
pub record ImageOf (texts blobs : List ℕ) (raws : Table → List (List ℕ)) (bytes : List ℕ) : Type 0 where
  pub spelled : bytes ≡ image_bytes (parts_with texts blobs raws)
  pub columns : Fit (sizes_of_rows texts blobs raws) raws
  pub small : Small (parts_with texts blobs raws)

-- rows with two tables in order
abbrev pub all_in_order : (Table → List (List Value)) → Table → List (List Value)
all_in_order rows table = in_order table (rows table)

-- the byte at a place of a heap is one of the empty content or of one that is said, by how contents are spelled
pub record Lies (spelled : List ℕ → List ℕ) (said : List ℕ → Type 0) (heap : Placed) (place : ℕ) : Type 0 where
  pub content : List ℕ
  pub is : (content ≡ []) ⊎ said content
  pub from : heap.index content ≤ place
  pub below : place < heap.index content + length (spelled content)

-- each byte of a heap is
abbrev pub IsTight : (List ℕ → List ℕ) → (List ℕ → Type 0) → Placed → Type 0
IsTight spelled said heap = (place : ℕ) → place < length heap.bytes → Lies spelled said heap place

-- a strict image whose declarations are these, and whose heaps hold nothing but what their rows say
pub record StrictFor (declared : List DeclTree) (bytes : List ℕ) : Type 0 where
  pub strict : Strict bytes
  pub states : strict.declared ≡ declared
  pub texts : ∥ IsTight text_bytes (λ content. Has (rows_of declared) (Text content)) strict.heaps.texts ∥₁
  pub blobs : ∥ IsTight blob_bytes (λ content. Has (rows_of declared) (Blob content)) strict.heaps.blobs ∥₁

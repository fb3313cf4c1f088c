-- Which images are strict.
use Rattle.std.specs.Prelude.{◌≡◌, ℕ, List}
use Rattle.md_schema.specs.Written.{Fit}
use Rattle.wr_base.specs.Trees.{DeclTree, name_of}
use Rattle.winmd_image.specs.Parts.{Small}
use Rattle.winmd_image.specs.Spelled.{image_bytes}
use Rattle.winmd_lines.specs.Orders.{Rising}
use Rattle.winmd_sets.specs.Rows.{rows_of}
use Rattle.winmd_strict.specs.Placed.{Heaped, Holds, numbers_of, parts_with, sizes_of_rows}

-- There are declarations in the order of their names whose rows these are, and nothing else stands in the image: headers, rows, their order
-- and their padding are fixed. Where the entries of the heaps stand is free: one content has one index, and contents may share bytes.
pub record Strict (bytes : List ℕ) : Type 0 where
  pub declared : List DeclTree
  pub ordered : Rising name_of declared
  pub heaps : Heaped
  pub holds : Holds heaps (rows_of declared)
  pub spelled : bytes ≡ image_bytes (parts_with heaps.texts.bytes heaps.blobs.bytes (numbers_of heaps (rows_of declared)))
  pub columns : Fit (sizes_of_rows heaps.texts.bytes heaps.blobs.bytes (numbers_of heaps (rows_of declared))) (numbers_of heaps (rows_of declared))
  pub small : Small (parts_with heaps.texts.bytes heaps.blobs.bytes (numbers_of heaps (rows_of declared)))

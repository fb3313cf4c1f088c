-- The image of a set with heaps that hold each text and each blob once, in the order of first use.
use Rattle.std.specs.Prelude.{ℕ, List, [], ◌∷◌, ◌++◌, bytes_eq, if◌then◌else◌}
use Rattle.std.specs.List.{list_any, flat_map, fold}
use Rattle.md_heaps.specs.Blobs.{blob_bytes}
use Rattle.md_heaps.specs.Texts.{text_bytes}
use Rattle.md_schema.specs.declared.table.Table.{Table}
use Rattle.wr_base.specs.Trees.{DeclTree}
use Rattle.winmd_image.specs.Spelled.{image_bytes}
use Rattle.md_schema.specs.Schema.{all_tables}
use Rattle.winmd_rows.specs.Values.{Value, Text, Blob}
use Rattle.winmd_sets.specs.Rows.{rows_of}
use Rattle.winmd_strict.specs.One.{placed_by}
use Rattle.winmd_strict.specs.Placed.{Heaped, numbers_of, parts_with}

-- ---- what rows use, in their order

abbrev pub texts_in_row : List Value → List (List ℕ)
texts_in_row [] = []
texts_in_row (Text text ∷ values) = text ∷ texts_in_row values
texts_in_row (_ ∷ values) = texts_in_row values

abbrev pub blobs_in_row : List Value → List (List ℕ)
blobs_in_row [] = []
blobs_in_row (Blob blob ∷ values) = blob ∷ blobs_in_row values
blobs_in_row (_ ∷ values) = blobs_in_row values

abbrev pub texts_in : (Table → List (List Value)) → List (List ℕ)
texts_in rows = flat_map (λ table. flat_map texts_in_row (rows table)) all_tables

abbrev pub blobs_in : (Table → List (List Value)) → List (List ℕ)
blobs_in rows = flat_map (λ table. flat_map blobs_in_row (rows table)) all_tables

-- one more item, unless it is there
abbrev pub with_item : List (List ℕ) → List ℕ → List (List ℕ)
with_item entries item = if list_any (bytes_eq item) entries then entries else entries ++ item ∷ []

-- the items, each once, in the order of first use, behind the empty one
abbrev pub entries_of : List (List ℕ) → List (List ℕ)
entries_of items = fold with_item ([] ∷ []) items

-- ---- the image

abbrev pub heaps_for : (Table → List (List Value)) → Heaped
heaps_for rows = record { texts = placed_by text_bytes (entries_of (texts_in rows)); blobs = placed_by blob_bytes (entries_of (blobs_in rows)) }

abbrev pub image_with : Heaped → (Table → List (List Value)) → List ℕ
image_with heaps rows = image_bytes (parts_with heaps.texts.bytes heaps.blobs.bytes (numbers_of heaps rows))

abbrev pub image_of_set : List DeclTree → List ℕ
image_of_set declared = image_with (heaps_for (rows_of declared)) (rows_of declared)

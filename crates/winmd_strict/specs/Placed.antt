-- Heaps by placement: their bytes, and the one index at which each content stands.
use Rattle.std.specs.Prelude.{◌≡◌, ℕ, ◌<◌, ◌^◌, false, List, [], ◌∷◌, length, take, map, nat_le, Ok}
use Rattle.std.specs.List.{AllByRecursion}
use Rattle.md_bytes.specs.Bytes.{part_at}
use Rattle.md_schema.specs.declared.table.Table.{Table}
use Rattle.md_schema.specs.declared.column.Column.{Column}
use Rattle.md_schema.specs.declared.sizes.Sizes.{Sizes}
use Rattle.md_schema.specs.Schema.{columns_of}
use Rattle.md_schema.specs.Written.{table_bytes}
use Rattle.md_tables.specs.Numbers.{by_number, count_or}
use Rattle.md_heaps.specs.Blobs.{blob_bytes}
use Rattle.winmd_rows.specs.Indices.{index_of}
use Rattle.md_heaps.specs.Reading.{text_at}
use Rattle.winmd_image.specs.Parts.{Parts, parts_of}
use Rattle.md_bytes.specs.Padding.{padded}
use Rattle.winmd_rows.specs.Values.{Value, Number, Text, Blob, Guid, To, Heaps}

-- A heap: its bytes without the padding, and the index of each content. One content has one index; two contents may share bytes.
pub record Placed : Type 0 where
  pub bytes : List ℕ
  pub index : List ℕ → ℕ

pub record Heaped : Type 0 where
  pub texts : Placed
  pub blobs : Placed

-- the text that begins at its index, up to the first zero, is this
abbrev pub HoldsText : Placed → List ℕ → Type 0
HoldsText heap text = text_at heap.bytes (heap.index text) ≡ Ok text

-- at its index stands the blob behind its length in the shortest form
pub record HoldsBlob (heap : Placed) (blob : List ℕ) : Type 0 where
  pub small : length blob < 2 ^ 29
  pub stands : part_at heap.bytes (heap.index blob) (length (blob_bytes blob)) ≡ blob_bytes blob

abbrev pub HoldsCell : Heaped → Value → Type 0
HoldsCell heaps (Text text) = HoldsText heaps.texts text
HoldsCell heaps (Blob blob) = HoldsBlob heaps.blobs blob
HoldsCell heaps _ = Unit {0}

-- Both heaps begin with a zero, and each text and each blob of the rows stands at its index.
pub record Holds (heaps : Heaped) (rows : Table → List (List Value)) : Type 0 where
  pub texts : take 1 heaps.texts.bytes ≡ 0 ∷ []
  pub blobs : take 1 heaps.blobs.bytes ≡ 0 ∷ []
  pub cells : (table : Table) → AllByRecursion (AllByRecursion (HoldsCell heaps)) (rows table)

-- ---- rows as numbers

abbrev pub number_in_cell : Heaped → Column → Value → ℕ
number_in_cell heaps column (Number n) = n
number_in_cell heaps column (Text text) = heaps.texts.index text
number_in_cell heaps column (Blob blob) = heaps.blobs.index blob
number_in_cell heaps column (Guid n) = n
number_in_cell heaps column (To table row) = index_of column table row

abbrev pub numbers_in_row : Heaped → List Column → List Value → List ℕ
numbers_in_row heaps [] values = []
numbers_in_row heaps (column ∷ columns) [] = []
numbers_in_row heaps (column ∷ columns) (value ∷ values) = number_in_cell heaps column value ∷ numbers_in_row heaps columns values

abbrev pub numbers_of : Heaped → (Table → List (List Value)) → Table → List (List ℕ)
numbers_of heaps rows table = map (numbers_in_row heaps (columns_of table)) (rows table)

-- ---- the image

abbrev pub heaps_in : Heaped → Heaps
heaps_in heaps = record { texts = padded heaps.texts.bytes; blobs = padded heaps.blobs.bytes }

-- which heaps are long, and how many rows each table has
abbrev pub sizes_of_rows : List ℕ → List ℕ → (Table → List (List ℕ)) → Sizes
sizes_of_rows texts blobs raws = record {
  long_texts = nat_le 0x10000 (length (padded texts));
  long_guids = false;
  long_blobs = nat_le 0x10000 (length (padded blobs));
  rows = map (count_or raws) by_number;
}

-- the streams of an image with these rows as numbers, and these heaps
abbrev pub parts_with : List ℕ → List ℕ → (Table → List (List ℕ)) → Parts
parts_with texts blobs raws = parts_of (padded (table_bytes (sizes_of_rows texts blobs raws) raws)) (padded texts) (padded blobs)

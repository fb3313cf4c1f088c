-- Rows with their indices followed in heaps that are still being written.
use Rattle.std.specs.Prelude.{◌≡◌, ℕ, ◌==◌, ◌&&◌, ◌^◌, nat_lt, Bool, true, false, List, [], ◌∷◌, length, map, Option, Some, None, Result, Ok, Err, is_some}
use Rattle.std.specs.List.{list_all}
use Rattle.md_heaps.specs.Heaps.{Heap, index_of}
use Rattle.md_heaps.specs.Reading.{text_at, blob_at}
use Rattle.md_schema.specs.declared.table.Table.{Table}
use Rattle.md_schema.specs.declared.table.Table.TheVariants as tables
use Rattle.md_schema.specs.declared.column.Column.{Column}
use Rattle.md_schema.specs.declared.column.Column.TheVariants.{One, Two, Four, Texts, Guids, Blobs, Index, Coded}
use Rattle.md_schema.specs.declared.faults.ImageFault.{ImageFault}
use Rattle.md_schema.specs.Codes.{target_of}
use Rattle.md_schema.specs.Schema.{columns_of, choices_of, bits_of}
use Rattle.winmd_rows.specs.Values.{Value, Number, Text, Blob, Guid, To}

-- ---- what a number says in these heaps; where nothing is read, the empty entry or no row

abbrev pub found : Result (List ℕ) ImageFault → List ℕ
found (Ok bytes) = bytes
found (Err fault) = []

abbrev pub target : Option (Table × ℕ) → Value
target None = To tables.Module 0
target (Some row) = To row.0 row.1

abbrev pub value_at : Heap → Heap → Column → ℕ → Value
value_at texts blobs One n = Number n
value_at texts blobs Two n = Number n
value_at texts blobs Four n = Number n
value_at texts blobs Texts n = Text (found (text_at texts.bytes n))
value_at texts blobs Guids n = Guid n
value_at texts blobs Blobs n = Blob (found (blob_at blobs.bytes n))
value_at texts blobs (Index table) n = To table n
value_at texts blobs (Coded coded) n = target (target_of (bits_of coded) (choices_of coded) n)

abbrev pub values_at : Heap → Heap → List Column → List ℕ → List Value
values_at texts blobs [] ns = []
values_at texts blobs (column ∷ columns) [] = []
values_at texts blobs (column ∷ columns) (n ∷ ns) = value_at texts blobs column n ∷ values_at texts blobs columns ns

abbrev pub Values : Type 0
Values = Table → List (List Value)

-- the rows, with each number followed
abbrev pub rows_seen : Heap → Heap → (Table → List (List ℕ)) → Values
rows_seen texts blobs raws table = map (values_at texts blobs (columns_of table)) (raws table)

-- ---- each index is that of what was interned

abbrev pub is_at : Option ℕ → ℕ → Bool
is_at None n = false
is_at (Some m) n = m == n

abbrev pub text_known : Heap → ℕ → Result (List ℕ) ImageFault → Bool
text_known heap n (Ok text) = is_at (index_of heap text) n
text_known heap n (Err fault) = false

abbrev pub blob_known : Heap → ℕ → Result (List ℕ) ImageFault → Bool
blob_known heap n (Ok blob) = is_at (index_of heap blob) n && nat_lt (length blob) (2 ^ 29)
blob_known heap n (Err fault) = false

abbrev pub cell_known : Heap → Heap → Column → ℕ → Bool
cell_known texts blobs Texts n = text_known texts n (text_at texts.bytes n)
cell_known texts blobs Blobs n = blob_known blobs n (blob_at blobs.bytes n)
cell_known texts blobs (Coded coded) n = is_some (target_of (bits_of coded) (choices_of coded) n)
cell_known texts blobs _ n = true

-- a number for each column
abbrev pub row_known : Heap → Heap → List Column → List ℕ → Bool
row_known texts blobs [] [] = true
row_known texts blobs (column ∷ columns) (n ∷ ns) = cell_known texts blobs column n && row_known texts blobs columns ns
row_known texts blobs _ _ = false

abbrev pub all_known : Heap → Heap → (Table → List (List ℕ)) → Table → Bool
all_known texts blobs raws table = list_all (row_known texts blobs (columns_of table)) (raws table)

-- each number of a row says a value, and is known
abbrev pub Says : Heap → Heap → List Column → List ℕ → List Value → Type 0
Says texts blobs [] [] [] = Unit {0}
Says texts blobs (column ∷ columns) (n ∷ ns) (value ∷ values) = (value_at texts blobs column n ≡ value) × (cell_known texts blobs column n ≡ true) × Says texts blobs columns ns values
Says texts blobs _ _ _ = ⊥

-- The tables' stream `#~` (ECMA-335 II.24.2.6): its header, and where each number of its tables stands. Arithmetic on offsets alone.
use Rattle.std.specs.Prelude.{ℕ, zero, suc, ◌+◌, ◌*◌, ◌/◌, ◌%◌, ◌^◌, ◌==◌, List, [], ◌∷◌, length, take, map, get_or, Bool, if◌then◌else◌}
use Rattle.md_bytes.specs.Bytes.{number_at, total}
use Rattle.md_schema.specs.declared.table.Table.{Table}
use Rattle.md_schema.specs.declared.sizes.Sizes.{Sizes}
use Rattle.md_schema.specs.Schema.{all_tables, columns_of, place_of}
use Rattle.md_schema.specs.Streams.{Streams, bytes_in}
use Rattle.md_schema.specs.Widths.{width_of, count_of}

-- ---- the header

-- a bit of a number, from the lowest
abbrev pub has_bit : ℕ → ℕ → Bool
has_bit n bit = n / 2 ^ bit % 2 == 1

-- how many of the low bits of a number are set
unfoldable pub bits_set : ℕ → ℕ → ℕ
bits_set zero n = 0
bits_set (suc bits) n = n % 2 + bits_set bits (n / 2)

-- the heap bits, and the bits of the tables that have rows
abbrev pub heap_bits : List ℕ → ℕ
heap_bits bytes = number_at bytes 6 1

abbrev pub valid_of : List ℕ → ℕ
valid_of bytes = number_at bytes 8 8

-- The row count of the table of this number stands behind those of the tables before it; without its bit it is 0.
abbrev pub count_at : List ℕ → ℕ → ℕ
count_at bytes n = if has_bit (valid_of bytes) n then number_at bytes (24 + 4 * bits_set n (valid_of bytes)) 4 else 0

-- so many numbers, from n on
unfoldable pub upto : ℕ → ℕ → List ℕ
upto n zero = []
upto n (suc k) = n ∷ upto (suc n) k

abbrev pub sizes_of : List ℕ → Sizes
sizes_of bytes = record {
  long_texts = has_bit (heap_bits bytes) 0;
  long_guids = has_bit (heap_bits bytes) 1;
  long_blobs = has_bit (heap_bits bytes) 2;
  rows = map (count_at bytes) (upto 0 45);
}

-- The rows begin behind the last row count.
abbrev pub rows_from : List ℕ → ℕ
rows_from bytes = 24 + 4 * bits_set 64 (valid_of bytes)

-- ---- offsets

-- the widths of the columns of a table
abbrev pub widths_of : Sizes → Table → List ℕ
widths_of sizes table = map (width_of sizes) (columns_of table)

-- how many bytes a row has, and all rows of a table
abbrev pub row_width : Sizes → Table → ℕ
row_width sizes table = total (widths_of sizes table)

abbrev pub table_size : Sizes → Table → ℕ
table_size sizes table = count_of sizes table * row_width sizes table

-- Where a table begins, from the first row of all on: behind the tables before it.
abbrev pub table_start : Sizes → Table → ℕ
table_start sizes table = total (map (table_size sizes) (take (place_of table) all_tables))

-- where the rows of all tables end
abbrev pub rows_end : List ℕ → ℕ
rows_end bytes = rows_from bytes + total (map (table_size (sizes_of bytes)) all_tables)

-- Where a cell stands in the stream: row counts times row widths, plus column widths. Rows and columns count from 0.
abbrev pub offset_of : List ℕ → Table → ℕ → ℕ → ℕ
offset_of bytes table row column =
    rows_from bytes + table_start (sizes_of bytes) table + row * row_width (sizes_of bytes) table + total (take column (widths_of (sizes_of bytes) table))

-- ---- cells

-- the number that stands there
abbrev pub cell : List ℕ → Table → ℕ → ℕ → ℕ
cell bytes table row column = number_at bytes (offset_of bytes table row column) (get_or (widths_of (sizes_of bytes) table) column 0)

-- a cell of an image
abbrev pub Cell : List ℕ → Streams → Table → ℕ → ℕ → ℕ
Cell image streams table row column = cell (bytes_in image streams.tables) table row column

-- all rows of a table, as numbers
abbrev pub raw : List ℕ → Table → List (List ℕ)
raw bytes table = map (λ row. map (λ column. cell bytes table row column) (upto 0 (length (columns_of table)))) (upto 0 (count_of (sizes_of bytes) table))

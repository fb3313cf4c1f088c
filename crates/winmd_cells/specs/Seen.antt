-- The tables that an image's numbers and heaps are seen as.
use Rattle.std.specs.Prelude.{ℕ, ◌-◌, List, [], get_or, Option, Some, None, Ok, slice_get}
use Rattle.md_schema.specs.declared.table.Table.{Table}
use Rattle.md_schema.specs.declared.column.Column.{Column}
use Rattle.md_schema.specs.Tables.{raw}
use Rattle.winmd_rows.specs.Values.{Value as CellValue, Heaps, Cell, Offsets, offsets_of, followed, follow, placed, Number as number_value, Text as text_value, Blob as blob_value, Guid as guid_value, To as to_value}
use Rattle.winmd_lines.specs.Cells.{Tables, Numbered}
use Rattle.winmd_cells.specs.declared.image.Image.{Image}
use Rattle.winmd_cells.specs.declared.cells.Value.{Value}
use Rattle.winmd_cells.specs.declared.cells.Value.TheVariants as values

-- the rows of a tables' stream at an offset, with their indices followed into the heaps
abbrev pub tables_of : ℕ → List ℕ → Heaps → Tables
tables_of start stream heaps = record { rows = followed heaps (offsets_of start stream) (raw stream); offset = offsets_of start stream }

abbrev pub offsets_in : Image → Offsets
offsets_in image = offsets_of image.at image.stream.now

abbrev pub heaps_in : Image → Heaps
heaps_in image = record { texts = image.texts.now; blobs = image.blobs.now }

abbrev pub tables_in : Image → Tables
tables_in image = tables_of image.at image.stream.now (heaps_in image)

-- a row by its number
abbrev pub row_seen : Image → Table → ℕ → List Cell
row_seen image table n = get_or ((tables_in image).rows table) (n - 1) []

abbrev pub seen : Image → Table → ℕ → Numbered
seen image table n = (n, row_seen image table n)

-- what a cell says
abbrev pub value_seen : Value → CellValue
value_seen (values.Number n) = number_value n
value_seen (values.Text text) = text_value text.now
value_seen (values.Blob blob) = blob_value blob.now
value_seen (values.Guid n) = guid_value n
value_seen (values.To table n) = to_value table n

-- a cell by its column and its number; where there is no such cell, 0
abbrev pub followed_cell : Heaps → ℕ → Option Column → Option ℕ → Cell
followed_cell heaps offset (Some column) (Some n) = placed offset (follow heaps column n)
followed_cell heaps offset (Some column) None = Ok (number_value 0)
followed_cell heaps offset None found = Ok (number_value 0)

-- the number in a cell
abbrev pub number_seen : Image → Table → ℕ → ℕ → Option ℕ
number_seen image table n column = slice_get (get_or (raw image.stream.now table) (n - 1) []) column

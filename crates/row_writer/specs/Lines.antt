-- Lines, as a writer is given them: a table and what each cell of a row says, and the rows with a line more (ECMA-335 II.22).
use Rattle.std.specs.Prelude.{ℕ, suc, ◌==◌, ◌&&◌, Bool, true, false, List, [], ◌∷◌, ◌++◌, length, map, nat_le, if◌then◌else◌}
use Rattle.std.specs.List.{list_all}
use Rattle.md_schema.specs.declared.table.Table.{Table}
use Rattle.md_schema.specs.declared.column.Column.{Column}
use Rattle.md_schema.specs.declared.column.Column.TheVariants.{One, Two, Four, Texts, Guids, Blobs, Index, Coded}
use Rattle.md_schema.specs.Schema.{place_of}
use Rattle.winmd_rows.specs.Indices.{names_table}
use Rattle.winmd_rows.specs.Values.{Value}
use Rattle.winmd_rows.specs.Values as values
use Rattle.row_writer.specs.Known.{Values}
use Rattle.row_writer.specs.declared.cell.Cell.{Cell}
use Rattle.row_writer.specs.declared.cell.Cell.TheVariants as cells

pub record Line : Type 0 where
  pub table : Table
  pub cells : List Cell

abbrev pub line : Table → List Cell → Line
line table cells = record { table = table; cells = cells }

-- what a cell says where so many rows stand in each table
abbrev pub value_of : (Table → ℕ) → Cell → Value
value_of before (cells.Number n) = values.Number n
value_of before (cells.Words text) = values.Text text.now
value_of before (cells.Bytes bytes) = values.Blob bytes.now
value_of before (cells.Guid n) = values.Guid n
value_of before (cells.To table n) = values.To table n
value_of before (cells.Last table) = values.To table (before table)
value_of before (cells.Next table) = values.To table (suc (before table))

-- how many rows each table has
abbrev pub counts : {A : Type 0} → (Table → List A) → Table → ℕ
counts rows table = length (rows table)

-- a row more, at the end of its table
abbrev pub added : Line → Values → Values
added l rows table = if place_of table == place_of l.table then rows table ++ map (value_of (counts rows)) l.cells ∷ [] else rows table

abbrev pub no_rows : Values
no_rows table = []

-- ---- which lines fit

-- which columns take numbers, texts, Guids and blobs, and rows of a table
abbrev pub takes_numbers : Column → Bool
takes_numbers One = true
takes_numbers Two = true
takes_numbers Four = true
takes_numbers _ = false

abbrev pub takes_texts : Column → Bool
takes_texts Texts = true
takes_texts _ = false

abbrev pub takes_guids : Column → Bool
takes_guids Guids = true
takes_guids _ = false

abbrev pub takes_blobs : Column → Bool
takes_blobs Blobs = true
takes_blobs _ = false

abbrev pub takes_rows : Table → Column → Bool
takes_rows table (Index other) = place_of other == place_of table
takes_rows table (Coded c) = names_table c table
takes_rows table _ = false

-- a cell of the column's kind
abbrev pub cell_fits : Column → Cell → Bool
cell_fits column (cells.Number n) = takes_numbers column
cell_fits column (cells.Words text) = takes_texts column
cell_fits column (cells.Bytes bytes) = takes_blobs column
cell_fits column (cells.Guid n) = takes_guids column
cell_fits column (cells.To table n) = takes_rows table column
cell_fits column (cells.Last table) = takes_rows table column
cell_fits column (cells.Next table) = takes_rows table column

-- a cell for each column
abbrev pub cells_fit : List Column → List Cell → Bool
cells_fit [] [] = true
cells_fit (column ∷ columns) (cell ∷ cells) = cell_fits column cell && cells_fit columns cells
cells_fit _ _ = false

-- ASCII without zero
abbrev pub is_plain : List ℕ → Bool
is_plain bytes = list_all (λ b. nat_le 1 b && nat_le b 127) bytes

-- What is worked out once of a tables' stream.
use Rattle.std.specs.Prelude.{◌≡◌, ◌≤◌, ◌<◌, ◌^◌, ◌+◌, ℕ, List, [], get_or, length}
use Rattle.md_schema.specs.declared.table.Table.{Table}
use Rattle.md_schema.specs.Schema.{place_of}
use Rattle.md_schema.specs.Tables.{rows_from, sizes_of, table_start, upto, widths_of}
use Rattle.md_tables.specs.Lists.{cells_in}
use Rattle.md_schema.specs.Widths.{count_of}
use Rattle.winmd_cells.specs.declared.image.Places.{Places}

-- These are the widths of the columns by the sizes that a stream states, where each of its tables begins, and the numbers from 1 on, as many as each table has rows.
pub record IsPlaces (stream : List ℕ) (places : Places) : Type 0 where
  pub wide : (table : Table) → get_or (cells_in places.widths.items) (place_of table) [] ≡ widths_of (sizes_of stream) table
  pub started : (table : Table) → get_or places.starts.items (place_of table) 0 ≡ rows_from stream + table_start (sizes_of stream) table
  pub near : (table : Table) → get_or places.starts.items (place_of table) 0 < 2 ^ 50
  pub enough : (table : Table) → count_of (sizes_of stream) table ≤ length places.numbers.items
  pub counted : places.numbers.items ≡ upto 1 (length places.numbers.items)
  pub short : length places.numbers.items < 2 ^ 32

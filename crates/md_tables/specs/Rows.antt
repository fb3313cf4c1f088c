-- The rows that a set holds and that a view answers, and the sizes that decide the widths of their columns.
use Rattle.std.specs.Prelude.{ℕ, ◌==◌, List, [], ◌∷◌, ◌++◌, map, get_or, if◌then◌else◌}
use Rattle.md_schema.specs.declared.sizes.Sizes.{Sizes}
use Rattle.md_schema.specs.declared.table.Table.{Table}
use Rattle.md_schema.specs.Schema.{place_of}
use Rattle.md_tables.specs.declared.set.TableSet.{TableSet}
use Rattle.md_tables.specs.declared.view.TableView.{TableView}
use Rattle.md_tables.specs.Numbers.{Rows, by_number, count_or}
use Rattle.md_tables.specs.Lists.{lists_in}

-- the rows of a table in a set
abbrev pub rows_in : TableSet → Rows
rows_in set table = get_or (lists_in set.tables.items) (place_of table) []

-- a row more at the end of a table
abbrev pub with_row : Rows → Table → List ℕ → Rows
with_row rows table row other = if place_of other == place_of table then rows other ++ row ∷ [] else rows other

-- the rows of a table that a view answers
abbrev pub rows_of : TableView → Rows
rows_of view table = get_or (lists_in view.tables.items) (place_of table) []

-- the heap bits of a set, and how many rows each table has
abbrev pub sizes_in : TableSet → Sizes
sizes_in set = record {
  long_texts = set.long_texts;
  long_guids = set.long_guids;
  long_blobs = set.long_blobs;
  rows = map (count_or (rows_in set)) by_number;
}

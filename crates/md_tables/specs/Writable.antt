-- Which sets have a stream (ECMA-335 II.24.2.6, II.22).
use Rattle.std.specs.Prelude.{◌≡◌, ◌^◌, ◌<◌, None, length}
use Rattle.std.specs.List.{AllByRecursion}
use Rattle.md_schema.specs.declared.table.Table.{Table}
use Rattle.md_schema.specs.Tables.{widths_of}
use Rattle.md_schema.specs.Written.{RowFits}
use Rattle.md_tables.specs.declared.set.TableSet.{TableSet}
use Rattle.md_tables.specs.Faults.{disorder, row_lists}
use Rattle.md_tables.specs.Rows.{rows_in, sizes_in}

-- A table has fewer than 2^24 rows, each cell fits its column, and no list of rows runs backwards or past the end of its table.
pub record Writable (set : TableSet) : Type 0 where
  pub few : (table : Table) → length (rows_in set table) < 2 ^ 24
  pub fits : (table : Table) → AllByRecursion (RowFits (widths_of (sizes_in set) table)) (rows_in set table)
  pub ordered : disorder (rows_in set) row_lists ≡ None

use Rattle.std.proofs.Common.{drop}
use Rattle.std.specs.Prelude.{◌↔◌}
use Rattle.std.specs.List.{AllByRecursion}
use Rattle.md_schema.specs.Tables.{widths_of}
use Rattle.md_schema.specs.Written.{RowFits}
use Rattle.md_tables.specs.Rows.{rows_in}
use Rattle.md_tables.proofs.writable.all_fit.Given as goal

abbrev pub invariant-loop-table : goal.invariant-loop-table
invariant-loop-table l =
    AllByRecursion (λ table. AllByRecursion (RowFits (widths_of l.sizes table)) (rows_in l.set table)) (drop l.table-index l.tables)
    ↔ AllByRecursion (λ table. AllByRecursion (RowFits (widths_of l.sizes table)) (rows_in l.set table)) l.tables

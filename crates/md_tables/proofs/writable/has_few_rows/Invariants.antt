use Rattle.std.proofs.Common.{◌<◌, ◌^◌, length, drop}
use Rattle.std.specs.Prelude.{◌↔◌}
use Rattle.std.specs.List.{AllByRecursion}
use Rattle.md_tables.specs.Rows.{rows_in}
use Rattle.md_tables.proofs.writable.has_few_rows.Given as goal

abbrev pub invariant-loop-table : goal.invariant-loop-table
invariant-loop-table l =
    AllByRecursion (λ table. length (rows_in l.set table) < 2 ^ 24) (drop l.table-index l.tables) ↔ AllByRecursion (λ table. length (rows_in l.set table) < 2 ^ 24) l.tables

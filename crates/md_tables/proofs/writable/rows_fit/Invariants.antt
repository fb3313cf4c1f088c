use Rattle.std.proofs.Common.{drop}
use Rattle.std.specs.Prelude.{◌↔◌}
use Rattle.std.specs.List.{AllByRecursion}
use Rattle.md_schema.specs.Written.{RowFits}
use Rattle.md_tables.specs.Lists.{cells_in}
use Rattle.md_tables.proofs.writable.rows_fit.Given as goal

abbrev pub invariant-loop-row : goal.invariant-loop-row
invariant-loop-row l =
    AllByRecursion (RowFits l.widths) (cells_in (drop l.row-index l.rows)) ↔ AllByRecursion (RowFits l.widths) (cells_in l.rows)

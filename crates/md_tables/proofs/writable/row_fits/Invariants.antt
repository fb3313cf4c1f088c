use Rattle.std.proofs.Common.{drop}
use Rattle.std.specs.Prelude.{◌↔◌}
use Rattle.md_schema.specs.Written.{RowFits}
use Rattle.md_tables.proofs.writable.row_fits.Given as goal

abbrev pub invariant-loop-i : goal.invariant-loop-i
invariant-loop-i l =
    RowFits (drop l.i l.widths) (drop l.i l.cells) ↔ RowFits l.widths l.cells

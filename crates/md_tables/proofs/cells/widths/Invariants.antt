use Rattle.std.proofs.Common.{◌≡◌, map, take}
use Rattle.md_schema.specs.Widths.{width_of}
use Rattle.md_tables.proofs.cells.widths.Given as goal

abbrev pub invariant-loop-column : goal.invariant-loop-column
invariant-loop-column l = l.widths.items ≡ map (width_of l.sizes) (take l.column-index l.columns)

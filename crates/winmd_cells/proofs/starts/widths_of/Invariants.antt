use Rattle.std.proofs.Common.{◌≡◌, map, take}
use Rattle.md_schema.specs.Tables as width_as
use Rattle.md_tables.specs.Lists.{cells_in}
use Rattle.winmd_cells.proofs.starts.widths_of.Given as goal

abbrev pub invariant-loop-table : goal.invariant-loop-table
invariant-loop-table l = cells_in l.list.items ≡ map (width_as.widths_of l.sizes) (take l.table-index l.order)

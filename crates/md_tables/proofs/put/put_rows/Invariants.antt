use Rattle.std.proofs.Common.{◌≡◌, ◌++◌, take}
use Rattle.std.specs.List.{flat_map}
use Rattle.md_schema.specs.Written.{row_bytes}
use Rattle.md_tables.specs.Lists.{cells_in}
use Rattle.md_tables.proofs.put.put_rows.Given as goal

abbrev pub invariant-loop-row : goal.invariant-loop-row
invariant-loop-row l = l.out.items ≡ l.fn.out.items ++ flat_map (row_bytes l.widths) (cells_in (take l.row-index l.rows))

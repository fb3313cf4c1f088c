use Rattle.std.proofs.Common.{◌++◌, drop}
use Rattle.md_schema.specs.Written.{row_bytes}
use Rattle.md_tables.proofs.PutLemmas.{cells_put}
use Rattle.md_tables.proofs.put.put_row.Goals as goal

pub returns-then-i-cells : goal.returns-then-i-cells
returns-then-i-cells c =
    cells_put (drop c.loop-i.i c.args.widths.now) c.args.cells.now c.loop-i.out.items
    (c.args.out.now.items ++ row_bytes c.args.widths.now c.args.cells.now) c.loop-i.i c.if-i-cells.true c.loop-i.invariant

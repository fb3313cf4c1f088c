use Rattle.std.proofs.Common.{◌≡◌, ◌++◌, drop}
use Rattle.md_schema.specs.Written.{row_bytes}
use Rattle.md_tables.proofs.put.put_row.Given as goal

abbrev pub invariant-loop-i : goal.invariant-loop-i
invariant-loop-i l = l.out.items ++ row_bytes (drop l.i l.widths) (drop l.i l.cells) ≡ l.fn.out.items ++ row_bytes l.widths l.cells

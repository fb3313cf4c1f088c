use Rattle.std.proofs.Common.{◌≡◌, ◌++◌, drop}
use Rattle.md_schema.specs.Written.{row_counts}
use Rattle.md_tables.proofs.write.put_counts.Given as goal

abbrev pub invariant-loop-n : goal.invariant-loop-n
invariant-loop-n l = l.out.items ++ row_counts (drop l.n l.rows) ≡ l.fn.out.items ++ row_counts l.rows

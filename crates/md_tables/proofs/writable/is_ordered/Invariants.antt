use Rattle.std.proofs.Common.{◌≡◌, drop}
use Rattle.md_tables.specs.Faults.{disorder}
use Rattle.md_tables.specs.Rows.{rows_in}
use Rattle.md_tables.proofs.writable.is_ordered.Given as goal

abbrev pub invariant-loop-list : goal.invariant-loop-list
invariant-loop-list l = disorder (rows_in l.set) (drop l.list-index l.lists) ≡ disorder (rows_in l.set) l.lists

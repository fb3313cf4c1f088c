use Rattle.std.proofs.Common.{◌≡◌, drop}
use Rattle.md_tables.specs.Faults.{disorder}
use Rattle.md_tables.specs.Rows.{rows_of}
use Rattle.md_tables.proofs.read.first_disorder.Given as goal

abbrev pub invariant-loop-list : goal.invariant-loop-list
invariant-loop-list l = disorder (rows_of l.view) (drop l.list-index l.lists) ≡ disorder (rows_of l.view) l.lists

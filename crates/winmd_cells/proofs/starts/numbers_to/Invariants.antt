use Rattle.std.proofs.Common.{◌≡◌}
use Rattle.md_schema.specs.Tables.{upto}
use Rattle.winmd_cells.proofs.starts.numbers_to.Given as goal

abbrev pub invariant-loop-i : goal.invariant-loop-i
invariant-loop-i l = l.numbers.items ≡ upto 1 l.i

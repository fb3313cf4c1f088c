use Rattle.std.proofs.Common.{ℕ, ◌<◌, get_or}
use Rattle.wr_base.specs.declared.declaration.Declaration.{Declaration}
use Rattle.writable_sets.specs.Stated.{HasWidths}
use Rattle.wr_tools.proofs.set.tell_widths.Given as goal

abbrev pub invariant-loop-i : goal.invariant-loop-i
invariant-loop-i l = (k : ℕ) (d : Declaration) → k < l.i → HasWidths (get_or l.types k d)

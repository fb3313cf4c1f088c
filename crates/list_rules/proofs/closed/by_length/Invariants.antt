use Rattle.std.proofs.Common.{◌≡◌, length}
use Rattle.list_rules.proofs.closed.by_length.Given as goal

abbrev pub invariant-loop-i : goal.invariant-loop-i
invariant-loop-i l = length l.keys.items ≡ l.i

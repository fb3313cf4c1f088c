use Rattle.list_rules.specs.Open.{FlagsTo, clash_listed}
use Rattle.list_rules.proofs.twice.with_twice.Given as goal

abbrev pub invariant-loop-i : goal.invariant-loop-i
invariant-loop-i l = FlagsTo (clash_listed l.types) l.types l.i l.on.items

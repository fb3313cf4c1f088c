use Rattle.list_rules.specs.Names.{NamedTo}
use Rattle.list_rules.proofs.names.number_names.Given as goal

abbrev pub invariant-loop-i : goal.invariant-loop-i
invariant-loop-i l = NamedTo l.types l.i l.numbers

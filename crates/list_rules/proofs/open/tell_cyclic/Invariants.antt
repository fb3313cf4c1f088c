use Rattle.chains.specs.Groups.{graph_of}
use Rattle.list_rules.specs.Open.{TellCyclic}
use Rattle.list_rules.proofs.open.tell_cyclic.Given as goal

abbrev pub invariant-loop-i : goal.invariant-loop-i
invariant-loop-i l = TellCyclic (graph_of l.graph) l.i l.on.items

use Rattle.chains.specs.Groups.{graph_of}
use Rattle.list_rules.specs.Rows.{AreRows}
use Rattle.list_rules.proofs.graph.rows_of.Given as goal

abbrev pub invariant-loop-i : goal.invariant-loop-i
invariant-loop-i l = AreRows l.types (graph_of l.sets) l.i (graph_of l.rows.items)

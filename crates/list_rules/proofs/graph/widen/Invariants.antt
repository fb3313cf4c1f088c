use Rattle.std.proofs.Common.{◌≡◌, ℕ, length}
use Rattle.chains.specs.Graphs.{steps_of}
use Rattle.chains.specs.Groups.{graph_of}
use Rattle.list_rules.proofs.graph.widen.Given as goal

abbrev pub invariant-loop-next : goal.invariant-loop-next
invariant-loop-next l = record {
  size : length l.rows.items ≡ l._next;
  rows : (a : ℕ) → steps_of (graph_of l.rows.items) a ≡ steps_of (graph_of l.initial.rows.items) a;
}

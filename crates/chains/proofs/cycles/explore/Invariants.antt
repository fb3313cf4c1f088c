use Rattle.std.proofs.Common.{◌≢◌}
use Rattle.chains.specs.Groups.{views_of, graph_of}
use Rattle.chains.specs.Marks.{mark_in, State, Known, weight}
use Rattle.chains.specs.declared.group.Mark.TheVariants.{New}
use Rattle.chains.proofs.cycles.explore.Given as goal

abbrev pub invariant-more : goal.invariant-more
invariant-more l = record {
  state : State (graph_of l.graph) l.marks (views_of l.groups.items) l.number;
  known : Known l.fn.marks l.marks;
  done : mark_in l.marks l.root ≢ New;
}

abbrev pub decreases-more : goal.decreases-more
decreases-more l = weight (graph_of l.graph) l.marks (views_of l.groups.items)

use Rattle.std.proofs.Common.{◌≢◌, ◌<◌, ℕ}
use Rattle.chains.specs.Groups.{graph_of}
use Rattle.chains.specs.Marks.{mark_in, Idle}
use Rattle.chains.specs.declared.group.Mark.TheVariants.{New}
use Rattle.chains.proofs.cycles.on_cycles.Given as goal

abbrev pub invariant-loop-root : goal.invariant-loop-root
invariant-loop-root l = record {
  idle : Idle (graph_of l.graph) l.marks.items l.number;
  done : (a : ℕ) → a < l.root → mark_in l.marks.items a ≢ New;
}

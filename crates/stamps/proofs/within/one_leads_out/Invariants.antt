use Rattle.std.proofs.Common.{ℕ, take}
use Rattle.chains.specs.Graphs.{In, steps_of}
use Rattle.chains.specs.Groups.{graph_of}
use Rattle.stamps.specs.Within.{Raised}
use Rattle.stamps.proofs.within.one_leads_out.Given as goal

abbrev pub invariant-loop-x : goal.invariant-loop-x
invariant-loop-x l = record {
  raised : Raised (graph_of l.graph) l.mine l.initial.stamps l.stamps;
  done : (x y : ℕ) → In x (take l.x-index l.set) → In y (steps_of (graph_of l.graph) x) → In y l.set;
}

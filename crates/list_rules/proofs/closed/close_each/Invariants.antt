use Rattle.std.proofs.Common.{◌≤◌, ◌*◌, ℕ}
use Rattle.chains.specs.Groups.{graph_of}
use Rattle.stamps.specs.Shared.{stamp_in}
use Rattle.stamps.specs.Within.{AreClosed}
use Rattle.list_rules.proofs.closed.close_each.Given as goal

abbrev pub invariant-loop-i : goal.invariant-loop-i
invariant-loop-i l = record {
  closed : AreClosed (graph_of l.graph) l.closed;
  upto : (x : ℕ) → stamp_in l.stamps x ≤ l.i * 2;
}

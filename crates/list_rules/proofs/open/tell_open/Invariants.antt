use Rattle.std.proofs.Common.{◌≤◌, ◌*◌, ℕ}
use Rattle.chains.specs.Groups.{graph_of}
use Rattle.stamps.specs.Shared.{stamp_in}
use Rattle.list_rules.specs.Open.{TellOpen}
use Rattle.list_rules.proofs.open.tell_open.Given as goal

abbrev pub invariant-loop-i : goal.invariant-loop-i
invariant-loop-i l = record {
  told : TellOpen (graph_of l.graph) (graph_of l.sets) l.i l.on.items;
  upto : (x : ℕ) → stamp_in l.stamps x ≤ l.i * 2;
}

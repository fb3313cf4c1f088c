use Rattle.std.proofs.Common.{◌-◌, length}
use Rattle.chains.specs.Groups.{graph_of}
use Rattle.chains.specs.Closure.{Told}
use Rattle.chains.proofs.ClosureLaws.{Going}
use Rattle.chains.proofs.closure.reached.Given as goal

abbrev pub invariant-more : goal.invariant-more
invariant-more l = record {
  told : Told l.flags l.found.items;
  going : Going (graph_of l.graph) l.from l.found.items l.next;
}

abbrev pub decreases-more : goal.decreases-more
decreases-more l = length l.flags - l.next

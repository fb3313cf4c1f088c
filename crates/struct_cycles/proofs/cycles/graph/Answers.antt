use Rattle.std.proofs.Common.{arith}
use Rattle.struct_cycles.specs.Places.{held_by}
use Rattle.struct_cycles.proofs.Links.{graph_turn}
use Rattle.struct_cycles.proofs.cycles.graph.Goals as goal

pub loop-i-preserved : goal.loop-i-preserved
loop-i-preserved c =
    graph_turn (held_by c.args.types.now) c.args.types.now c.loop-i.i c.at.result.now c.loop-i.graph.items c.push.new.self.items c.in_ok-list.list (omega arith) c.at.ensures.value c.loop-i.invariant c.in_ok-push.ensures.items c.in_ok-list.ensures

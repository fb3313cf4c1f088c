use Rattle.std.proofs.Common.{arith}
use Rattle.class_synthesis.proofs.TakenLaws.{holds_turn}
use Rattle.class_synthesis.proofs.taken.declared.Goals as goal

pub loop-item-preserved : goal.loop-item-preserved
loop-item-preserved c =
    holds_turn c.args.items.now c.loop-item.item-index c.item-item.result c.written_name.result.now c.loop-item.taken c.mark.new.taken (omega arith) c.item-item.is c.written_name.ensures c.loop-item.invariant c.in_ok-mark.ensures

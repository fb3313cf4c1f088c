use Rattle.std.proofs.Common.{arith}
use Rattle.class_synthesis.proofs.TakenLaws.{adds_more}
use Rattle.class_synthesis.proofs.taken.mark_all.Goals as goal

pub loop-name-preserved : goal.loop-name-preserved
loop-name-preserved c = adds_more c.args.names.now c.loop-name.name-index c.name-item.result c.args.taken.now c.loop-name.taken c.mark.new.taken (omega arith) c.name-item.is c.loop-name.invariant c.in_ok-mark.ensures

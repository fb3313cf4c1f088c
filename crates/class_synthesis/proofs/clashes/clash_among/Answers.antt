use Rattle.std.proofs.Common.{arith}
use Rattle.ranked.proofs.FirstLaws.{none_below, finished}
use Rattle.class_synthesis.proofs.TakenLaws.{clash_more}
use Rattle.class_synthesis.proofs.clashes.clash_among.Goals as goal

pub loop-name-init : goal.loop-name-init
loop-name-init c = none_below _

pub loop-name-preserved : goal.loop-name-preserved
loop-name-preserved c =
    clash_more c.args.taken.now c.args.at c.args.names.now c.loop-name.name-index c.name-item.result c.loop-name.first c.in_ok-clash_of.field-0 c.earlier-first.result
    c.name-item.is (omega arith) c.in_ok-clash_of.ensures c.earlier-first.ensures c.loop-name.invariant

pub returns : goal.returns
returns c = finished _ c.loop-name.name-index _ c.loop-name.first c.loop-name.invariant (omega arith)

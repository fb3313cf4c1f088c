use Rattle.std.proofs.Common.{arith}
use Rattle.closed_lists.proofs.Meetings.{meets_item}
use Rattle.closed_lists.proofs.closing.meet_all.Goals as goal

pub loop-ty-preserved : goal.loop-ty-preserved
loop-ty-preserved c = meets_item c.args.uses.now c.loop-ty.ty-index c.ty-item.result c.args.gathered.now c.loop-ty.gathered c.meet.new.gathered (omega arith) c.ty-item.is c.loop-ty.invariant c.in_ok-meet.ensures

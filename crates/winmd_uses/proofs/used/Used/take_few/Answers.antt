use Rattle.std.proofs.Common.{arith}
use Rattle.winmd_uses.proofs.MemberLaws.{few_turn}
use Rattle.winmd_uses.proofs.used.Used.take_few.Goals as goal

pub loop-i-preserved : goal.loop-i-preserved
loop-i-preserved c =
    few_turn c.args.members.now c.loop-i.i c.index-members-i.result c.repeats.result c.args.self.now c.loop-i.self c.take_member.new.self (omega (arith, c.loop-i-test.true)) c.index-members-i.is c.repeats.ensures c.loop-i.invariant
    c.in_ok-take_member.ensures

use Rattle.winmd_uses.proofs.MemberLaws.{Passed}
use Rattle.winmd_uses.proofs.used.Used.take_many.Given as goal

abbrev pub invariant-loop-member : goal.invariant-loop-member
invariant-loop-member l = Passed l.members l.member-index l.initial.self l.self l.earlier

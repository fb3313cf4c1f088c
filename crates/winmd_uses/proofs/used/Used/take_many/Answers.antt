use Rattle.std.proofs.Common.{List, arith, subst}
use Rattle.wr_base.specs.Trees.{member_tree}
use Rattle.winmd_lines.specs.Lines.{Line}
use Rattle.winmd_uses.specs.Earlier.{texts_in}
use Rattle.winmd_uses.specs.Takes.{Takes, lines_say}
use Rattle.winmd_uses.proofs.MemberLaws.{lines_if, passed_all, passed_more, passed_none}
use Rattle.winmd_uses.proofs.used.Used.take_many.Goals as goal

pub loop-member-init : goal.loop-member-init
loop-member-init c = passed_none c.args.members.now c.args.self.now c.new-earlier.result c.new-earlier.ensures.empty

pub loop-member-preserved : goal.loop-member-preserved
loop-member-preserved c =
    passed_more c.args.members.now c.loop-member.member-index c.member-item.result c.args.self.now c.loop-member.self c.take_member.new.self c.loop-member.earlier c.note.new.earlier (omega arith) c.member-item.is c.loop-member.invariant
    (subst (λ (ls : List Line). Takes (lines_say ls) c.loop-member.self c.take_member.new.self) (lines_if (texts_in c.loop-member.earlier) (member_tree c.member-item.result) c.is_noted.result (c.is_noted.ensures)) c.in_ok-take_member.ensures) c.in_ok-note.ensures

pub returns : goal.returns
returns c = passed_all c.args.members.now c.loop-member.member-index c.args.self.now c.loop-member.self c.loop-member.earlier (omega arith) c.loop-member.invariant

use Rattle.std.proofs.Common.{subst, arith}
use Rattle.numbered.specs.Numbers.{number_in}
use Rattle.member_clash.specs.Names.{Put, names_in}
use Rattle.wr_base.specs.declared.declaration.Member.{Member}
use Rattle.member_clash.proofs.Puts.{put_none, put_turn}
use Rattle.member_clash.proofs.names.put_members.Goals as goal

pub loop-member-init : goal.loop-member-init
loop-member-init c = put_none (number_in c.args.numbers.now) c.args.numbers.now.count c.args.list.now.items c.requires.numbering

pub put_member-requires : goal.put_member-requires
put_member-requires c = record { numbering = c.loop-member.invariant.whole }

pub loop-member-preserved : goal.loop-member-preserved
loop-member-preserved c =
    put_turn names_in c.args.members.now c.loop-member.member-index c.member-item.result (number_in c.args.numbers.now) (number_in c.loop-member.numbers) (number_in c.put_member.new.numbers) c.loop-member.numbers.count c.put_member.new.numbers.count
    c.args.list.now.items c.loop-member.list.items c.put_member.new.list.items (omega arith) c.loop-member.invariant (subst (λ (m : Member). Put (number_in c.loop-member.numbers) (number_in c.put_member.new.numbers) c.put_member.new.numbers.count (names_in m) c.loop-member.list.items c.put_member.new.list.items) c.member-item.is c.in_ok-put_member.ensures)

use Rattle.std.proofs.Common.{arith}
use Rattle.numbered.specs.Numbers.{number_in}
use Rattle.wr_rules.specs.Members.{found_names}
use Rattle.found_table.specs.Views.{member_view}
use Rattle.found_table.specs.declared.found.FoundMember.{FoundMember}
use Rattle.member_clash.proofs.Puts.{put_none, put_turn}
use Rattle.member_clash.proofs.names.put_found_members.Goals as goal

pub loop-member-init : goal.loop-member-init
loop-member-init c = put_none (number_in c.args.numbers.now) c.args.numbers.now.count c.args.list.now.items c.requires.numbering

pub put_found_member-requires : goal.put_found_member-requires
put_found_member-requires c = record { numbering = c.loop-member.invariant.whole }

pub loop-member-preserved : goal.loop-member-preserved
loop-member-preserved c =
    put_turn (λ (m : FoundMember). found_names (member_view m)) c.args.members.now c.loop-member.member-index _ (number_in c.args.numbers.now) (number_in c.loop-member.numbers) (number_in c.put_found_member.new.numbers) c.loop-member.numbers.count c.put_found_member.new.numbers.count
    c.args.list.now.items c.loop-member.list.items c.put_found_member.new.list.items (omega arith) c.loop-member.invariant c.in_ok-put_found_member.ensures

use Rattle.std.proofs.Common.{map}
use Rattle.wr_rules.specs.Uses.{member_uses}
use Rattle.site_uses.specs.Views.{used_view}
use Rattle.site_uses.proofs.Lists.{flat_more}
use Rattle.site_uses.proofs.site_uses.push_members.Goals as goal

pub loop-member-preserved : goal.loop-member-preserved
loop-member-preserved c =
    flat_more (map used_view c.args.list.now.items) (map used_view c.loop-member.list.items) (map used_view c.push_member.new.list.items) c.args.members.now c.loop-member.member-index c.member-item.result
    c.loop-member-test.true c.member-item.is member_uses c.in_ok-push_member.ensures c.loop-member.invariant

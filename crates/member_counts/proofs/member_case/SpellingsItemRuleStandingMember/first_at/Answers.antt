use Rattle.std.proofs.Common.{◌<◌}
use Rattle.wr_base.specs.declared.code.Code.TheVariants.{MemberCase}
use Rattle.placed_sites.specs.Views.{spot_view}
use Rattle.wr_rules.specs.Members.{member_name}
use Rattle.wr_base.specs.Lower.{lower}
use Rattle.member_counts.specs.Tallies.{count_at}
use Rattle.member_counts.proofs.Paired.{tested}
use Rattle.member_counts.proofs.member_case.SpellingsItemRuleStandingMember.first_at.Goals as goal

pub returns : goal.returns
returns c =
    tested c.refuse_if.result (λ m. count_at c.args.self.now.exact (member_name m) < count_at c.args.self.now.folded (lower (member_name m))) MemberCase c.in_ok-broken.broken
    c.part.result.now c.args.item.now.part (spot_view c.spot.result) c.args.item.now.spot c.part.ensures c.spot.ensures c.in_ok-broken.ensures c.refuse_if.ensures

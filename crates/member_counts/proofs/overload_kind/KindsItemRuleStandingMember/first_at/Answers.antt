use Rattle.wr_base.specs.declared.code.Code.TheVariants.{OverloadKind}
use Rattle.placed_sites.specs.Views.{spot_view}
use Rattle.wr_rules.specs.Members.{member_name}
use Rattle.wr_rules.specs.MemberRules.{is_method}
use Rattle.member_counts.specs.Tallies.{count_at, Mixed}
use Rattle.member_counts.proofs.Paired.{tested}
use Rattle.member_counts.proofs.overload_kind.KindsItemRuleStandingMember.first_at.Goals as goal

pub returns : goal.returns
returns c =
    tested c.refuse_if.result (λ m. Mixed (is_method m) (count_at c.args.self.now.others (member_name m)) (count_at c.args.self.now.all_ (member_name m))) OverloadKind c.mixed.result
    c.part.result.now c.args.item.now.part (spot_view c.spot.result) c.args.item.now.spot c.part.ensures c.spot.ensures c.mixed.ensures c.refuse_if.ensures

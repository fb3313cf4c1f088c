use Rattle.std.proofs.Common.{ap, not, ◌∙◌}
use Rattle.placed_sites.specs.Views.{spot_view}
use Rattle.wr_base.specs.declared.code.Code.TheVariants.{FactoryShape}
use Rattle.wr_rules.specs.Members.{signature_in}
use Rattle.wr_rules.specs.FactoryRules.{makes}
use Rattle.placed_sites.proofs.Firsts.{refused}
use Rattle.factory_rules.proofs.shape.MemberShapeItemRuleStandingMember.first_at.Goals as goal

pub returns : goal.returns
returns c =
    refused c.refuse_if.result (not c.in_ok-fine.fine) (not (makes c.args.self.now.class.now (signature_in c.args.item.now.part))) FactoryShape (spot_view c.spot.result) c.args.item.now.spot
    (ap not (c.in_ok-fine.ensures ∙ ap (makes c.args.self.now.class.now) (c.signature_in.ensures ∙ ap signature_in c.part.ensures))) c.spot.ensures c.refuse_if.ensures

use Rattle.std.proofs.Common.{ap, not, ◌∙◌}
use Rattle.placed_sites.specs.Views.{spot_view}
use Rattle.wr_base.specs.declared.code.Code.TheVariants.{EnumRange}
use Rattle.wr_rules.specs.MemberRules.{fits}
use Rattle.placed_sites.proofs.Firsts.{refused}
use Rattle.part_rules.proofs.enum_rules.CaseRangeItemRuleStandingCase.first_at.Goals as goal

pub returns : goal.returns
returns c =
    refused c.refuse_if.result (not c.fits.result) (not (fits c.args.self.now.flags c.args.item.now.part.value)) EnumRange (spot_view c.spot.result) c.args.item.now.spot
    (ap not (c.fits.ensures ∙ ap (λ it. fits c.args.self.now.flags it.value) c.part.ensures)) c.spot.ensures c.refuse_if.ensures

use Rattle.std.proofs.Common.{ap, ◌∙◌}
use Rattle.placed_sites.specs.Views.{spot_view}
use Rattle.wr_base.specs.declared.code.Code.TheVariants.{FactoryShape}
use Rattle.wr_rules.specs.Kinds.{named}
use Rattle.wr_rules.specs.FactoryRules.{is_found_interface}
use Rattle.placed_sites.proofs.Firsts.{refused}
use Rattle.std.proofs.Common.{refl}
use Rattle.factory_rules.proofs.shape.FoundFactoryItemRuleFullName.first_at.Goals as goal

pub returns : goal.returns
returns c =
    refused c.refuse_if.result c.is_found_interface-found.result (is_found_interface (named c.args.self.now.types.now c.args.item.now 0)) FactoryShape (spot_view c.args.self.now.spot) (spot_view c.args.self.now.spot)
    (c.is_found_interface-found.ensures ∙ ap is_found_interface c.named.ensures.value) refl c.refuse_if.ensures

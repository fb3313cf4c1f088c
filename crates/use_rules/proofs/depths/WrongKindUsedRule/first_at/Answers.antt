use Rattle.std.proofs.Common.{Bool, not, ◌&&◌, ap, ◌∙◌}
use Rattle.std.specs.List.{list_any}
use Rattle.wr_base.specs.Trees.{UseTree, within}
use Rattle.wr_base.specs.declared.code.Code.TheVariants.{WrongKind}
use Rattle.wr_rules.specs.UseRules.{is_by_name, wrong_kind}
use Rattle.placed_sites.specs.Views.{spot_view}
use Rattle.site_uses.specs.Views.{role_view, shape_view}
use Rattle.use_rules.proofs.Anys.{refused_any}
use Rattle.use_rules.proofs.depths.WrongKindUsedRule.first_at.Goals as goal

pub returns : goal.returns
returns c =
    refused_any (λ (v : UseTree). not (is_by_name (role_view c.args.used.now.role)) && wrong_kind c.args.self.now.types.now v) (within (shape_view c.args.used.now.shape)) WrongKind
    (spot_view c.args.used.now.spot) c.refuse_if.result c.any_within.result
    (c.any_within.ensures ∙ ap (λ (b : Bool). list_any (λ (v : UseTree). not b && wrong_kind c.args.self.now.types.now v) (within (shape_view c.args.used.now.shape))) c.is_by_name.ensures) c.refuse_if.ensures

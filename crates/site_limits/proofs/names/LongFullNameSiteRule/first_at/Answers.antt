use Rattle.std.proofs.Common.{ap, ◌∙◌}
use Rattle.placed_sites.specs.Views.{site_view, spot_view}
use Rattle.wr_base.specs.declared.code.Code.TheVariants.{LongFullName}
use Rattle.wr_rules.specs.Sites.{spot_of, site_name}
use Rattle.wr_rules.specs.Limits.{is_long_name}
use Rattle.placed_sites.proofs.Firsts.{refused}
use Rattle.site_limits.proofs.names.LongFullNameSiteRule.first_at.Goals as goal

pub returns : goal.returns
returns c =
    refused c.refuse_if.result c.is_long.result (is_long_name (site_name (site_view c.args.site.now))) LongFullName (spot_view c.spot.result) (spot_of (site_view c.args.site.now))
    (c.is_long.ensures ∙ ap is_long_name c.name.ensures) c.spot.ensures c.refuse_if.ensures

use Rattle.std.proofs.Common.{[]}
use Rattle.placed_sites.specs.Views.{site_view, spot_view}
use Rattle.wr_base.specs.declared.code.Code.TheVariants.{DefaultMissing}
use Rattle.wr_rules.specs.Sites.{spot_of}
use Rattle.wr_rules.specs.ListRules.{misses_default}
use Rattle.placed_sites.proofs.Firsts.{refused}
use Rattle.part_rules.proofs.class_rules.DefaultMissingSiteRule.first_at.Goals as goal

pub returns : goal.returns
returns c =
    refused c.refuse_if.result c.in_ok-broken.broken (misses_default [] (site_view c.args.site.now).decl) DefaultMissing (spot_view c.spot.result) (spot_of (site_view c.args.site.now))
    c.in_ok-broken.ensures c.spot.ensures c.refuse_if.ensures

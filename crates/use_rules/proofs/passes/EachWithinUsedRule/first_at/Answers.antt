use Rattle.wr_base.specs.Trees.{within}
use Rattle.placed_sites.specs.Views.{spot_view}
use Rattle.site_uses.specs.Views.{shape_view}
use Rattle.use_rules.proofs.Anys.{refused_any}
use Rattle.use_rules.proofs.passes.EachWithinUsedRule.first_at.Goals as goal

pub returns : goal.returns
returns g c =
    refused_any (g.T.UseTest.passes c.args.self.now.test) (within (shape_view c.args.used.now.shape)) c.args.self.now.code (spot_view c.args.used.now.spot) c.refuse_if.result c.any_within.result
    c.any_within.ensures c.refuse_if.ensures

use Rattle.std.proofs.Common.{refl}
use Rattle.placed_sites.proofs.Firsts.{refused}
use Rattle.placed_sites.specs.Views.{spot_view}
use Rattle.site_uses.specs.Views.{used_view}
use Rattle.use_rules.proofs.passes.EachUseUsedRule.first_at.Goals as goal

pub returns : goal.returns
returns g c =
    refused c.refuse_if.result c.meets.result (g.T.UsedTest.meets c.args.self.now.test (used_view c.args.used.now)) c.args.self.now.code (spot_view c.args.used.now.spot)
    (spot_view c.args.used.now.spot) c.meets.ensures refl c.refuse_if.ensures

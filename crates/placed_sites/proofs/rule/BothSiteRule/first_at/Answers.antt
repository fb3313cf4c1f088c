use Rattle.ranked.proofs.FirstLaws.{union_as}
use Rattle.placed_sites.specs.Views.{site_view}
use Rattle.placed_sites.proofs.rule.BothSiteRule.first_at.Goals as goal

pub returns : goal.returns
returns g c =
    union_as (g.A.SiteRule.broken c.args.self.now.first (site_view c.args.site.now)) (g.B.SiteRule.broken c.args.self.now.second (site_view c.args.site.now)) c.in_ok-first.first
    c.in_ok-second.second c.earlier.result c.earlier.ensures c.in_ok-first.ensures c.in_ok-second.ensures

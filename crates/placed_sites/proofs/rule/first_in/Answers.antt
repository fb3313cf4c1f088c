use Rattle.std.proofs.Common.{arith}
use Rattle.ranked.specs.First.{At}
use Rattle.ranked.proofs.FirstLaws.{none_below, one_more_as, at_element, finished}
use Rattle.wr_rules.specs.Sites.{sites_of}
use Rattle.placed_sites.proofs.rule.first_in.Goals as goal

pub loop-i-init : goal.loop-i-init
loop-i-init g c = none_below _

pub loop-i-preserved : goal.loop-i-preserved
loop-i-preserved g c =
    one_more_as (At (sites_of c.args.types.now.types c.args.types.now.places) (g.R.SiteRule.broken c.args.rule.now)) c.loop-i.i c.loop-i.first c.in_ok-first_at.field-0 c.earlier-first.result
    c.earlier-first.ensures c.loop-i.invariant
    (at_element (sites_of c.args.types.now.types c.args.types.now.places) (g.R.SiteRule.broken c.args.rule.now) c.loop-i.i _ c.in_ok-first_at.field-0 c.at-site.ensures c.in_ok-first_at.ensures)

pub returns : goal.returns
returns g c = finished _ c.loop-i.i _ c.loop-i.first c.loop-i.invariant (omega (arith, c.site_count-i-end.ensures.count))

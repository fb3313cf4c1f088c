use Rattle.std.proofs.Common.{arith}
use Rattle.ranked.proofs.FirstLaws.{none_below}
use Rattle.site_uses.specs.Views.{used_view}
use Rattle.use_rules.proofs.Viewed.{viewed_more, viewed_end}
use Rattle.use_rules.proofs.passes.first_in_uses.Goals as goal

pub loop-used-init : goal.loop-used-init
loop-used-init g c = none_below _

pub loop-used-preserved : goal.loop-used-preserved
loop-used-preserved g c =
    viewed_more used_view c.args.uses.now (g.R.UsedRule.broken c.args.rule.now) c.loop-used.used-index c.used-item.result c.loop-used.first c.in_ok-first_at.field-0 c.earlier-first.result c.used-item.is
    c.loop-used-test.true c.earlier-first.ensures c.loop-used.invariant c.in_ok-first_at.ensures

pub returns : goal.returns
returns g c = viewed_end used_view c.args.uses.now (g.R.UsedRule.broken c.args.rule.now) c.loop-used.used-index c.loop-used.first c.loop-used.invariant (omega arith)

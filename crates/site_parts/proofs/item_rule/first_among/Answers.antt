use Rattle.ranked.proofs.FirstLaws.{none_below, one_more_element}
use Rattle.site_parts.proofs.item_rule.first_among.Goals as goal

pub loop-item-init : goal.loop-item-init
loop-item-init g c = none_below _

pub loop-item-preserved : goal.loop-item-preserved
loop-item-preserved g c =
    one_more_element c.args.items.now (g.R.ItemRule.broken c.args.rule.now) c.loop-item.item-index c.item-item.result c.loop-item.first c.in_ok-first_at.field-0 c.earlier-first.result c.item-item.is
    c.earlier-first.ensures c.loop-item.invariant c.in_ok-first_at.ensures c.loop-item-test.true

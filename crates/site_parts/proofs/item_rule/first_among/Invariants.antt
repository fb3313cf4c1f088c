use Rattle.ranked.specs.First.{IsFirst, Below, At}
use Rattle.site_parts.proofs.item_rule.first_among.Given as goal

abbrev pub invariant-loop-item : goal.invariant-loop-item
invariant-loop-item g l = IsFirst (Below l.item-index (At l.items (g.R.ItemRule.broken l.rule))) l.first

use Rattle.std.proofs.Common.{map}
use Rattle.ranked.specs.First.{IsFirst, Below, At}
use Rattle.site_uses.specs.Views.{used_view}
use Rattle.use_rules.proofs.passes.first_in_uses.Given as goal

abbrev pub invariant-loop-used : goal.invariant-loop-used
invariant-loop-used g l = IsFirst (Below l.used-index (At (map used_view l.uses) (g.R.UsedRule.broken l.rule))) l.first

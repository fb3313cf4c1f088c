use Rattle.ranked.specs.First.{IsFirst, Below, At}
use Rattle.wr_rules.specs.Sites.{sites_of}
use Rattle.placed_sites.proofs.rule.first_in.Given as goal

abbrev pub invariant-loop-i : goal.invariant-loop-i
invariant-loop-i g l = IsFirst (Below l.i (At (sites_of l.types.types l.types.places) (g.R.SiteRule.broken l.rule))) l.first

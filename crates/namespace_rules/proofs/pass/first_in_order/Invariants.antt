use Rattle.ranked.specs.First.{IsFirst, Below}
use Rattle.wr_rules.specs.Sites.{sites_of}
use Rattle.namespace_rules.specs.Pass.{HasMet, ClashAt}
use Rattle.namespace_rules.proofs.pass.first_in_order.Given as goal

abbrev pub invariant-loop-i : goal.invariant-loop-i
invariant-loop-i l = record {
  met : HasMet (sites_of l.types.types l.types.places) l.stands l.i l.met;
  first : IsFirst (Below l.i (ClashAt (sites_of l.types.types l.types.places) l.stands)) l.first;
}

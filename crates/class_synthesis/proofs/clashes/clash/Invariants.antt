use Rattle.ranked.specs.First.{IsFirst, Below}
use Rattle.class_synthesis.specs.Clashes.{ClashesAt}
use Rattle.class_synthesis.specs.Taken.{Holds, names_before}
use Rattle.class_synthesis.proofs.clashes.clash.Given as goal

abbrev pub invariant-loop-item : goal.invariant-loop-item
invariant-loop-item l = record {
  first : IsFirst (Below l.item-index (ClashesAt l.items)) l.first;
  taken : Holds l.taken (names_before l.items l.item-index);
}

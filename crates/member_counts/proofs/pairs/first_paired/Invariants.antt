use Rattle.ranked.specs.First.{IsFirst, Below}
use Rattle.member_counts.proofs.Pairwise.{PairedAt}
use Rattle.member_counts.proofs.pairs.first_paired.Given as goal

abbrev pub invariant-loop-index : goal.invariant-loop-index
invariant-loop-index g l = IsFirst (Below l.index (PairedAt (g.R.Relation.holds l.relation) l.code l.members)) l.first

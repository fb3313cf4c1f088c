use Rattle.ranked.proofs.FirstLaws.{none_below, one_more_as}
use Rattle.member_counts.proofs.Pairwise.{PairedAt}
use Rattle.member_counts.proofs.pairs.first_paired.Goals as goal

pub loop-index-init : goal.loop-index-init
loop-index-init g c = none_below (PairedAt (g.R.Relation.holds c.args.relation.now) c.args.code c.args.members.now)

pub loop-index-preserved : goal.loop-index-preserved
loop-index-preserved g c =
    one_more_as (PairedAt (g.R.Relation.holds c.args.relation.now) c.args.code c.args.members.now) c.loop-index.index c.loop-index.first c.in_ok-first_at_index.field-0 c.earlier-first.result
    c.earlier-first.ensures c.loop-index.invariant c.in_ok-first_at_index.ensures

use Rattle.std.proofs.Common.{arith}
use Rattle.member_counts.proofs.Pairwise.{none_paired}
use Rattle.member_counts.proofs.pairs.is_paired.Goals as goal

pub returns : goal.returns
returns g c = none_paired (g.R.Relation.holds c.args.relation.now) c.args.members.now c.args.index c.args.member.now c.loop-other.other (omega arith) c.loop-other.invariant

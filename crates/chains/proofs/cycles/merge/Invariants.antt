use Rattle.std.proofs.Common.{vec_len}
use Rattle.chains.specs.Groups.{view_of, views_of}
use Rattle.chains.proofs.Merges.{SoFar}
use Rattle.chains.proofs.cycles.merge.Given as goal

abbrev pub invariant-more : goal.invariant-more
invariant-more l = SoFar l.number (view_of l.initial.top) (views_of l.initial.groups.items) (view_of l.top) (views_of l.groups.items)

abbrev pub decreases-more : goal.decreases-more
decreases-more l = vec_len l.groups

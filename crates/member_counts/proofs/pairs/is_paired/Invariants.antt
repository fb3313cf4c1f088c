use Rattle.std.proofs.Common.{◌≡◌, ◌<◌, ℕ, not, ◌&&◌, false, Some, slice_get}
use Rattle.std.specs.Prelude.{◌==◌}
use Rattle.wr_base.specs.declared.declaration.Member.{Member}
use Rattle.wr_rules.specs.Members.{Standing}
use Rattle.member_counts.proofs.pairs.is_paired.Given as goal

abbrev pub invariant-loop-other : goal.invariant-loop-other
invariant-loop-other g l = (j : ℕ) → (b : Standing Member) → j < l.other → slice_get l.members j ≡ Some b → (not (l.index == j) && g.R.Relation.holds l.relation l.member.part b.part) ≡ false

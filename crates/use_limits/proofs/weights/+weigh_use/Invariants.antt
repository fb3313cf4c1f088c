use Rattle.std.proofs.Common.{◌≡◌, ◌+◌, take}
use Rattle.wr_base.specs.Trees.{tree_of}
use Rattle.set_limits.specs.Counts.{capped}
use Rattle.use_limits.proofs.WeightLaws.{sum_of}
use Rattle.use_limits.proofs.weights.+weigh_use.Given as goal

abbrev pub invariant-loop-argument : goal.invariant-loop-argument
invariant-loop-argument g l = l.total ≡ capped (g.W.UseWeight.weigh l.weight (tree_of l.ty) + sum_of (g.W.UseWeight.weigh l.weight) (take l.argument-index l.argument-items))

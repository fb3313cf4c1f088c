use Rattle.std.proofs.Common.{◌≡◌, take}
use Rattle.set_limits.specs.Counts.{capped}
use Rattle.use_limits.proofs.WeightLaws.{sum_of}
use Rattle.use_limits.proofs.weights.weigh_among.Given as goal

abbrev pub invariant-loop-ty : goal.invariant-loop-ty
invariant-loop-ty g l = l.total ≡ capped (sum_of (g.W.UseWeight.weigh l.weight) (take l.ty-index l.uses))

use Rattle.std.proofs.Common.{◌≡◌, map, sum_by, take}
use Rattle.set_limits.specs.Counts.{capped}
use Rattle.site_uses.specs.Views.{used_view}
use Rattle.use_limits.specs.Weights.{weight_at}
use Rattle.use_limits.proofs.weights.weigh_used.Given as goal

abbrev pub invariant-loop-one : goal.invariant-loop-one
invariant-loop-one g l = l.total ≡ capped (sum_by (weight_at (g.W.UseWeight.weigh l.weight)) (map used_view (take l.one-index l.used)))

use Rattle.std.proofs.Common.{◌≡◌, ◌+◌, ◌<◌, ◌^◌, map, length}
use Rattle.wr_base.specs.Trees.{member_tree}
use Rattle.winmd_sets.specs.Types.{params_in, sum_of}
use Rattle.winmd_set.specs.Stated.{capped}
use Rattle.winmd_set.proofs.parts.params_of.Given as goal

abbrev pub invariant-each : goal.invariant-each
invariant-each l = (l.sum < 2 ^ 64) × (capped (l.sum + sum_of params_in (map member_tree l.rest)) ≡ capped (sum_of params_in (map member_tree l.fn.members)))

abbrev pub decreases-each : goal.decreases-each
decreases-each l = length l.rest

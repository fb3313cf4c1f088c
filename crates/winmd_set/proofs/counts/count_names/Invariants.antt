use Rattle.std.proofs.Common.{◌≡◌, ◌+◌, ℕ, List, length}
use Rattle.winmd_set.specs.Counts.{count_at, times}
use Rattle.winmd_set.proofs.counts.count_names.Given as goal

abbrev pub invariant-each : goal.invariant-each
invariant-each l = (text : List ℕ) → count_at l.counts text + times text l.rest ≡ times text l.fn.list

abbrev pub decreases-each : goal.decreases-each
decreases-each l = length l.rest

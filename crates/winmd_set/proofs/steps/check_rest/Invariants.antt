use Rattle.std.proofs.Common.{◌≡◌, ◌≤◌, map, length}
use Rattle.winmd_cells.specs.Seen.{tables_in}
use Rattle.winmd_set.specs.Counts.{Counts}
use Rattle.winmd_set.specs.Stated.{stated_seen}
use Rattle.winmd_set.specs.Steps.{steps_of}
use Rattle.winmd_set.proofs.steps.check_rest.Given as goal

abbrev pub invariant-each : goal.invariant-each
invariant-each l = (l.parts ≤ 500000) × (l.types ≤ 20000) × Counts l.counts l.rest
    × (steps_of (tables_in l.image) l.types l.parts (map stated_seen l.rest) ≡ steps_of (tables_in l.image) 0 0 (map stated_seen l.fn.list))

abbrev pub decreases-each : goal.decreases-each
decreases-each l = length l.rest

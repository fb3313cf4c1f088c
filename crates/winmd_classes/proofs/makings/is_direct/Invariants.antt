use Rattle.std.proofs.Common.{◌≡◌, ◌||◌, map, length}
use Rattle.winmd_sets.specs.Classes.{is_direct}
use Rattle.winmd_classes.specs.Seen.{making_seen}
use Rattle.winmd_classes.proofs.makings.is_direct.Given as goal

abbrev pub invariant-each : goal.invariant-each
invariant-each l = (l.direct || is_direct (map making_seen l.rest)) ≡ is_direct (map making_seen l.fn.makings)

abbrev pub decreases-each : goal.decreases-each
decreases-each l = length l.rest

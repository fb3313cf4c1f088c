use Rattle.std.proofs.Common.{◌≡◌, ◌+◌, ◌-◌, ◌*◌, ◌≤◌}
use Rattle.winmd_image.specs.Found.{all_found}
use Rattle.winmd_image.specs.Root as root_as
use Rattle.winmd_image.specs.Seen.{range_seen, found_seen}
use Rattle.winmd_image.proofs.HeaderLemmas.{joined}
use Rattle.winmd_image.proofs.root.headers.Given as goal

abbrev pub invariant-loop : goal.invariant-loop
invariant-loop l =
    (l.at ≤ l.first + 44 * l.counter)
    × (joined (found_seen l.found) (root_as.headers l.image (range_seen l.metadata) (l.count - l.counter) l.at) ≡ all_found (root_as.headers l.image (range_seen l.metadata) l.count l.first))

use Rattle.std.proofs.Common.{◌≡◌, map, length}
use Rattle.winmd_sets.specs.Interfaces.{items_of}
use Rattle.winmd_cells.specs.Seen.{tables_in}
use Rattle.winmd_source.specs.Behind.{behind}
use Rattle.winmd_members.specs.Seen.{item_seen, played_seen}
use Rattle.winmd_members.proofs.items.items_of.Given as goal

abbrev pub invariant-each : goal.invariant-each
invariant-each l = behind (map (item_seen l.source.image) l.items.items) (items_of (tables_in l.source.image) (map (played_seen l.source.image) l.rest)) ≡ items_of (tables_in l.source.image) (map (played_seen l.source.image) l.fn.roles)

abbrev pub decreases-each : goal.decreases-each
decreases-each l = length l.rest

use Rattle.std.proofs.Common.{◌≡◌, map, length}
use Rattle.winmd_cells.specs.Seen.{seen, tables_in}
use Rattle.winmd_lists.specs.Begun.{well}
use Rattle.winmd_rows.specs.Faults.{each}
use Rattle.winmd_sets.specs.Types.{begun}
use Rattle.winmd_lists.proofs.begun.rows_begin.Given as goal

abbrev pub invariant-each : goal.invariant-each
invariant-each l =
    well (each (begun (tables_in l.image) l.owner l.column l.member) (map (seen l.image l.owner) l.rest))
    ≡ well (each (begun (tables_in l.image) l.owner l.column l.member) (map (seen l.image l.owner) l.fn.rows))

abbrev pub decreases-each : goal.decreases-each
decreases-each l = length l.rest

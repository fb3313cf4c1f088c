use Rattle.std.proofs.Common.{◌≡◌, ◌++◌, map, length}
use Rattle.md_schema.specs.declared.table.Table.TheVariants as tables
use Rattle.winmd_sets.specs.Methods.{of_sequence}
use Rattle.winmd_cells.specs.Seen.{seen}
use Rattle.winmd_methods.specs.Seen.{sequenced_seen}
use Rattle.winmd_methods.proofs.params.of_sequence.Given as goal

abbrev pub invariant-each : goal.invariant-each
invariant-each l = map (seen l.source.image tables.Param) l.rows.items ++ of_sequence l.n (map (sequenced_seen l.source.image) l.rest) ≡ of_sequence l.n (map (sequenced_seen l.source.image) l.fn.list)

abbrev pub decreases-each : goal.decreases-each
decreases-each l = length l.rest

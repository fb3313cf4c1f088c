use Rattle.std.proofs.Common.{◌≡◌, map, length}
use Rattle.md_schema.specs.declared.table.Table.TheVariants as tables
use Rattle.winmd_rows.specs.Faults.{each}
use Rattle.winmd_sets.specs.Methods.{sequenced}
use Rattle.winmd_cells.specs.Seen.{seen, tables_in}
use Rattle.winmd_source.specs.Behind.{behind}
use Rattle.winmd_methods.specs.Seen.{sequenced_seen}
use Rattle.winmd_methods.proofs.params.sequence.Given as goal

abbrev pub invariant-each : goal.invariant-each
invariant-each l = behind (map (sequenced_seen l.source.image) l.rows.items) (each (sequenced (tables_in l.source.image)) (map (seen l.source.image tables.Param) l.rest)) ≡ each (sequenced (tables_in l.source.image)) (map (seen l.source.image tables.Param) l.fn.list)

abbrev pub decreases-each : goal.decreases-each
decreases-each l = length l.rest

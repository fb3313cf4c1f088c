use Rattle.std.proofs.Common.{◌≡◌, map, length}
use Rattle.md_schema.specs.declared.table.Table.TheVariants as tables
use Rattle.winmd_rows.specs.Faults.{each}
use Rattle.winmd_cells.specs.Seen.{seen, tables_in}
use Rattle.winmd_source.specs.Behind.{behind}
use Rattle.winmd_classes.specs.Parts.{implemented_in}
use Rattle.winmd_classes.specs.Seen.{implemented_seen}
use Rattle.winmd_classes.proofs.implemented.all_implemented.Given as goal

abbrev pub invariant-each : goal.invariant-each
invariant-each l = behind (map implemented_seen l.interfaces.items) (each (implemented_in (tables_in l.source.image)) (map (seen l.source.image tables.InterfaceImpl) l.rest)) ≡ each (implemented_in (tables_in l.source.image)) (map (seen l.source.image tables.InterfaceImpl) l.fn.rows)

abbrev pub decreases-each : goal.decreases-each
decreases-each l = length l.rest

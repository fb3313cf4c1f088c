use Rattle.std.proofs.Common.{◌≡◌, map, length}
use Rattle.md_schema.specs.declared.table.Table.TheVariants as tables
use Rattle.winmd_rows.specs.Faults.{each}
use Rattle.winmd_sets.specs.Fields.{marked}
use Rattle.winmd_cells.specs.Seen.{seen}
use Rattle.winmd_source.specs.Behind.{behind}
use Rattle.winmd_fields.specs.Seen.{mark_seen}
use Rattle.winmd_fields.proofs.marks.marks.Given as goal

abbrev pub invariant-each : goal.invariant-each
invariant-each l = behind (map (mark_seen l.source.image) l.marks.items) (each marked (map (seen l.source.image tables.Field) l.rest)) ≡ each marked (map (seen l.source.image tables.Field) l.fn.fields)

abbrev pub decreases-each : goal.decreases-each
decreases-each l = length l.rest

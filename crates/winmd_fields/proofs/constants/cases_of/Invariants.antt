use Rattle.std.proofs.Common.{◌≡◌, map, length}
use Rattle.md_schema.specs.declared.table.Table.TheVariants as tables
use Rattle.winmd_rows.specs.Faults.{each}
use Rattle.winmd_sets.specs.Fields.{case_of}
use Rattle.winmd_cells.specs.Seen.{seen, tables_in}
use Rattle.winmd_source.specs.Behind.{behind}
use Rattle.winmd_fields.proofs.constants.cases_of.Given as goal

abbrev pub invariant-each : goal.invariant-each
invariant-each l = behind l.cases.items (each (case_of (tables_in l.source.image) l.flags) (map (seen l.source.image tables.Field) l.rest)) ≡ each (case_of (tables_in l.source.image) l.flags) (map (seen l.source.image tables.Field) l.fn.fields)

abbrev pub decreases-each : goal.decreases-each
decreases-each l = length l.rest

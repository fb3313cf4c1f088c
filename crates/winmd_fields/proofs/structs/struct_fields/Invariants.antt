use Rattle.std.proofs.Common.{◌≡◌, map, length}
use Rattle.md_schema.specs.declared.table.Table.TheVariants as tables
use Rattle.winmd_rows.specs.Faults.{each}
use Rattle.winmd_sets.specs.Fields.{struct_field}
use Rattle.winmd_cells.specs.Seen.{seen, tables_in}
use Rattle.winmd_source.specs.Behind.{behind}
use Rattle.wr_base.specs.Trees.{field_tree}
use Rattle.winmd_fields.proofs.structs.struct_fields.Given as goal

abbrev pub invariant-each : goal.invariant-each
invariant-each l =
    behind (map field_tree l.fields.items) (each (struct_field (tables_in l.source.image)) (map (seen l.source.image tables.Field) l.rest)) ≡ each (struct_field (tables_in l.source.image)) (map (seen l.source.image tables.Field) l.fn.rows)

abbrev pub decreases-each : goal.decreases-each
decreases-each l = length l.rest

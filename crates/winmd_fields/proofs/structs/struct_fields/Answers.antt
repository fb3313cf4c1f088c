use Rattle.std.proofs.Common.{ap, map}
use Rattle.md_schema.specs.declared.table.Table.TheVariants as tables
use Rattle.winmd_rows.specs.Faults.{each}
use Rattle.winmd_cells.specs.Seen.{seen, tables_in}
use Rattle.winmd_attributes.proofs.EachLaws.{turn}
use Rattle.winmd_sets.specs.Fields.{struct_field}
use Rattle.wr_base.specs.Trees.{field_tree}
use Rattle.winmd_fields.proofs.structs.struct_fields.Goals as goal

pub each-preserved : goal.each-preserved
each-preserved c =
    let image = c.args.source.now.image in
    let view = seen image tables.Field in
    turn (struct_field (tables_in image)) (field_tree) c.each.fields.items c.push.new.self.items c.in_ok-field.field (view c.in-Some.row.now) (map view c.in-Some.after.now) (map view c.each.rest.now)
    (each (struct_field (tables_in image)) (map view c.args.rows.now)) (ap (map view) c.in-Some.ensures.cases.0) c.in_ok-field.ensures c.in_ok-push.ensures.items c.each.invariant

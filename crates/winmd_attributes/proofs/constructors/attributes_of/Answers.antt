use Rattle.std.proofs.Common.{ap, map}
use Rattle.md_schema.specs.declared.table.Table.TheVariants as tables
use Rattle.winmd_rows.specs.Faults.{each}
use Rattle.winmd_sets.specs.Attributes.{attribute_of}
use Rattle.winmd_cells.specs.Seen.{seen, tables_in}
use Rattle.winmd_attributes.specs.Seen.{attribute_seen}
use Rattle.winmd_attributes.proofs.EachLaws.{turn}
use Rattle.winmd_attributes.proofs.constructors.attributes_of.Goals as goal

pub each-preserved : goal.each-preserved
each-preserved c =
    let view = seen c.args.source.now.image tables.CustomAttribute in
    turn (attribute_of (tables_in c.args.source.now.image)) (attribute_seen c.args.source.now.image) c.each.attributes.items c.push.new.self.items c.in_ok-attribute.attribute (view c.in-Some.row.now) (map view c.in-Some.after.now)
    (map view c.each.rest.now) (each (attribute_of (tables_in c.args.source.now.image)) (map view c.args.rows.now)) (ap (map view) c.in-Some.ensures.cases.0) c.in_ok-attribute.ensures c.in_ok-push.ensures.items c.each.invariant

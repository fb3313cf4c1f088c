use Rattle.std.proofs.Common.{ap, map}
use Rattle.md_schema.specs.declared.table.Table.TheVariants as tables
use Rattle.winmd_rows.specs.Faults.{each}
use Rattle.winmd_cells.specs.Seen.{seen, tables_in}
use Rattle.winmd_attributes.proofs.EachLaws.{turn}
use Rattle.winmd_classes.specs.Parts.{implemented_in}
use Rattle.winmd_classes.specs.Seen.{implemented_seen}
use Rattle.winmd_classes.proofs.implemented.all_implemented.Goals as goal

pub each-preserved : goal.each-preserved
each-preserved c =
    let image = c.args.source.now.image in
    let view = seen image tables.InterfaceImpl in
    turn (implemented_in (tables_in image)) implemented_seen c.each.interfaces.items c.push.new.self.items c.in_ok-interface.interface (view c.in-Some.row.now) (map view c.in-Some.after.now) (map view c.each.rest.now)
    (each (implemented_in (tables_in image)) (map view c.args.rows.now)) (ap (map view) c.in-Some.ensures.cases.0) c.in_ok-interface.ensures c.in_ok-push.ensures.items c.each.invariant

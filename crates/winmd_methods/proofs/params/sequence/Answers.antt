use Rattle.std.proofs.Common.{ap, map}
use Rattle.md_schema.specs.declared.table.Table.TheVariants as tables
use Rattle.winmd_rows.specs.Faults.{each}
use Rattle.winmd_cells.specs.Seen.{seen, tables_in}
use Rattle.winmd_attributes.proofs.EachLaws.{turn}
use Rattle.winmd_sets.specs.Methods.{sequenced}
use Rattle.winmd_methods.specs.Seen.{sequenced_seen}
use Rattle.winmd_methods.proofs.params.sequence.Goals as goal

pub each-preserved : goal.each-preserved
each-preserved c =
    let image = c.args.source.now.image in
    let view = seen image tables.Param in
    turn (sequenced (tables_in image)) (sequenced_seen image) c.each.rows.items c.push.new.self.items c.in_ok-one.one (view c.in-Some.row.now) (map view c.in-Some.after.now) (map view c.each.rest.now)
    (each (sequenced (tables_in image)) (map view c.args.list.now)) (ap (map view) c.in-Some.ensures.cases.0) c.in_ok-one.ensures c.in_ok-push.ensures.items c.each.invariant

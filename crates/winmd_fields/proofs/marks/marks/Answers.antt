use Rattle.std.proofs.Common.{ap, map}
use Rattle.md_schema.specs.declared.table.Table.TheVariants as tables
use Rattle.winmd_rows.specs.Faults.{each}
use Rattle.winmd_cells.specs.Seen.{seen}
use Rattle.winmd_attributes.proofs.EachLaws.{turn}
use Rattle.winmd_sets.specs.Fields.{marked}
use Rattle.winmd_fields.specs.Seen.{mark_seen}
use Rattle.winmd_fields.proofs.marks.marks.Goals as goal

pub each-preserved : goal.each-preserved
each-preserved c =
    let image = c.args.source.now.image in
    let view = seen image tables.Field in
    turn (marked) (mark_seen image) c.each.marks.items c.push.new.self.items c.in_ok-mark.mark (view c.in-Some.field.now) (map view c.in-Some.after.now) (map view c.each.rest.now)
    (each (marked) (map view c.args.fields.now)) (ap (map view) c.in-Some.ensures.cases.0) c.in_ok-mark.ensures c.in_ok-push.ensures.items c.each.invariant

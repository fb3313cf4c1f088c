use Rattle.std.proofs.Common.{ap, map}
use Rattle.md_schema.specs.declared.table.Table.TheVariants as tables
use Rattle.winmd_rows.specs.Faults.{each}
use Rattle.winmd_sets.specs.Fields.{case_of}
use Rattle.winmd_cells.specs.Seen.{seen, tables_in}
use Rattle.winmd_fields.proofs.CaseLaws.{case_turn}
use Rattle.winmd_fields.proofs.constants.cases_of.Goals as goal

pub each-preserved : goal.each-preserved
each-preserved c =
    let image = c.args.source.now.image in
    let view = seen image tables.Field in
    case_turn (case_of (tables_in image) c.args.flags) c.each.cases.items c.push.new.self.items c.in_ok-case.case (view c.in-Some.field.now) (map view c.in-Some.after.now) (map view c.each.rest.now)
    (each (case_of (tables_in image) c.args.flags) (map view c.args.fields.now)) (ap (map view) c.in-Some.ensures.cases.0) c.in_ok-case.ensures c.in_ok-push.ensures.items c.each.invariant

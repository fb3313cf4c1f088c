use Rattle.std.proofs.Common.{ap, map}
use Rattle.md_schema.specs.declared.table.Table.TheVariants as tables
use Rattle.winmd_rows.specs.Faults.{each}
use Rattle.winmd_cells.specs.Seen.{seen, tables_in}
use Rattle.winmd_attributes.proofs.EachLaws.{turn}
use Rattle.winmd_sets.specs.Methods.{named_method}
use Rattle.winmd_methods.specs.Seen.{method_seen}
use Rattle.winmd_methods.proofs.delegates.named_methods.Goals as goal

pub each-preserved : goal.each-preserved
each-preserved c =
    let image = c.args.source.now.image in
    let view = seen image tables.MethodDef in
    turn (named_method (tables_in image)) (method_seen image) c.each.methods.items c.push.new.self.items c.in_ok-method.method (view c.in-Some.row.now) (map view c.in-Some.after.now) (map view c.each.rest.now)
    (each (named_method (tables_in image)) (map view c.args.rows.now)) (ap (map view) c.in-Some.ensures.cases.0) c.in_ok-method.ensures c.in_ok-push.ensures.items c.each.invariant

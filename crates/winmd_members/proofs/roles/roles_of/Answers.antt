use Rattle.std.proofs.Common.{ap, map}
use Rattle.md_schema.specs.declared.table.Table.TheVariants as tables
use Rattle.winmd_rows.specs.Faults.{each}
use Rattle.winmd_cells.specs.Seen.{seen, tables_in}
use Rattle.winmd_attributes.proofs.EachLaws.{turn}
use Rattle.winmd_sets.specs.Interfaces.{role_of}
use Rattle.winmd_members.specs.Seen.{played_seen}
use Rattle.winmd_members.proofs.roles.roles_of.Goals as goal

pub each-preserved : goal.each-preserved
each-preserved c =
    let image = c.args.source.now.image in
    let view = seen image tables.MethodDef in
    turn (role_of (tables_in image)) (played_seen image) c.each.roles.items c.push.new.self.items c.in_ok-played.played (view c.in-Some.method.now) (map view c.in-Some.after.now) (map view c.each.rest.now)
    (each (role_of (tables_in image)) (map view c.args.methods.now)) (ap (map view) c.in-Some.ensures.cases.0) c.in_ok-played.ensures c.in_ok-push.ensures.items c.each.invariant

use Rattle.std.proofs.Common.{ap, map, option_map}
use Rattle.md_schema.specs.declared.table.Table.TheVariants as tables
use Rattle.winmd_cells.specs.Seen.{seen, tables_in}
use Rattle.winmd_set.specs.Stated.{stated_seen}
use Rattle.winmd_sets.specs.Types.{type_of}
use Rattle.winmd_read.specs.InTurn.{stated_by}
use Rattle.winmd_read.proofs.RowLaws.{turn}
use Rattle.winmd_read.proofs.rows.all_stated.Goals as goal

pub each-preserved : goal.each-preserved
each-preserved c =
    let image = c.args.source.now.image in
    let view = seen image tables.TypeDef in
    turn (type_of (tables_in image)) (map stated_seen c.each.list.items) (map stated_seen c.add_if.new.list.items) (option_map stated_seen c.in_ok-stated.stated) (view c.in-Some.row.now) (map view c.in-Some.after.now)
    (map view c.each.rest.now) (stated_by (tables_in image) (map view c.args.rows.now)) (ap (map view) c.in-Some.ensures.cases.0) c.in_ok-stated.ensures c.in_ok-add_if.ensures c.each.invariant

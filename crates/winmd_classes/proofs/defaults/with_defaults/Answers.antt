use Rattle.std.proofs.Common.{ap, map, option_map}
use Rattle.winmd_rows.specs.Faults.{each}
use Rattle.winmd_cells.specs.Seen.{tables_in}
use Rattle.winmd_attributes.proofs.EachLaws.{turn}
use Rattle.winmd_sets.specs.Classes.{with_default}
use Rattle.wr_base.specs.Trees.{tree_of}
use Rattle.winmd_classes.specs.Seen.{implemented_seen}
use Rattle.winmd_classes.proofs.defaults.with_defaults.Goals as goal

pub each-preserved : goal.each-preserved
each-preserved c =
    let t = tables_in c.args.source.now.image in
    turn (with_default t) (option_map tree_of) c.each.defaults.items c.push.new.self.items c.in_ok-default.default (implemented_seen c.in-Some.interface.now) (map implemented_seen c.in-Some.after.now) (map implemented_seen c.each.rest.now)
    (each (with_default t) (map implemented_seen c.args.interfaces.now)) (ap (map implemented_seen) c.in-Some.ensures.cases.0) c.in_ok-default.ensures c.in_ok-push.ensures.items c.each.invariant

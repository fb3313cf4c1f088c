use Rattle.std.proofs.Common.{map}
use Rattle.std.proofs.lemmas.Result.{err_from_is_err_and}
use Rattle.winmd_sets.specs.Interfaces.{items_of}
use Rattle.winmd_cells.specs.Seen.{tables_in}
use Rattle.winmd_members.specs.Seen.{played_seen}
use Rattle.winmd_members.proofs.ItemLaws.{item_fails, item_turn}
use Rattle.winmd_members.proofs.items.items_of.Goals as goal

pub each-preserved : goal.each-preserved
each-preserved c =
    let image = c.args.source.now.image in
    item_turn image (tables_in image) c.each.items.items c.push.new.self.items c.in_ok-item.item c.in-Some.first.now c.in-Some.after.now c.in_ok-item.others.now c.each.rest.now (items_of (tables_in image) (map (played_seen image) c.args.roles.now))
    c.in-Some.ensures.cases.0 c.in_ok-item.ensures.next c.in_ok-push.ensures.items c.each.invariant

pub returns-in_err-item : goal.returns-in_err-item
returns-in_err-item c =
    let p = err_from_is_err_and c.from_residual.result c.from_residual.ensures.1 in
    let image = c.args.source.now.image in
    rw (p.1, p.2) (item_fails image (tables_in image) c.each.items.items c.in-Some.first.now c.in-Some.after.now c.each.rest.now c.in_err-item.field-0.0 (items_of (tables_in image) (map (played_seen image) c.args.roles.now))
    c.in-Some.ensures.cases.0 c.in_err-item.ensures.next c.each.invariant)

use Rattle.std.proofs.Common.{sym, ◌∙◌, map}
use Rattle.std.proofs.lemmas.Result.{err_from_is_err_and}
use Rattle.midl_tree.specs.Views.{item_view}
use Rattle.midl_words.proofs.Turns.{goes_on_by, fails, ends, turn_shorter, begun}
use Rattle.midl_parse.proofs.LoopItems.{item_item}
use Rattle.midl_parse.proofs.items.+items.Goals as goal

pub nested_of-more-init : goal.nested_of-more-init
nested_of-more-init t c = rw c.new-items.ensures.items (begun (item_item c.args.types c.args.depth) c.args.tokens.now)

pub nested_of-returns-in_err-item : goal.nested_of-returns-in_err-item
nested_of-returns-in_err-item t c =
    let p = err_from_is_err_and c.from_residual.result c.from_residual.ensures.1 in
    rw (p.1, p.2) (fails (item_item c.args.types c.args.depth) c.in_err-item.field-0.0 (map item_view c.more.items.items) c.more.rest.now _ (sym c.begins_item.ensures ∙ c.more-test.true) c.in_err-item.ensures c.more.invariant)

pub nested_of-more-smaller : goal.nested_of-more-smaller
nested_of-more-smaller t c = turn_shorter (item_item c.args.types c.args.depth) c.more.rest.now c.in_ok-item.after.now (item_view c.in_ok-item.item) c.in_ok-item.ensures

pub nested_of-more-preserved : goal.nested_of-more-preserved
nested_of-more-preserved t c =
    goes_on_by (item_item c.args.types c.args.depth) item_view c.more.items.items c.push.new.self.items c.in_ok-item.item c.more.rest.now c.in_ok-item.after.now _ (sym c.begins_item.ensures ∙ c.more-test.true) c.in_ok-item.ensures c.in_ok-push.ensures.items c.more.invariant

pub nested_of-returns : goal.nested_of-returns
nested_of-returns t c = ends (item_item c.args.types c.args.depth) (map item_view c.more.items.items) c.more.rest.now _ (sym c.begins_item.ensures ∙ c.more-test.false) c.more.invariant

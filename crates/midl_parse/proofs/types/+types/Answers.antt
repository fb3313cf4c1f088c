use Rattle.std.proofs.Common.{sym, ◌∙◌}
use Rattle.std.proofs.lemmas.Result.{err_from_is_err_and}
use Rattle.midl_tree.specs.Views.{type_view, types_view}
use Rattle.midl_words.proofs.Turns.{goes_on_by, fails, ends, turn_shorter}
use Rattle.midl_parse.proofs.LoopItems.{type_item}
use Rattle.midl_parse.proofs.types.+types.Goals as goal

pub more_types-returns-in_err-item : goal.more_types-returns-in_err-item
more_types-returns-in_err-item t c =
    let p = err_from_is_err_and c.from_residual.result c.from_residual.ensures.1 in
    rw (p.1, p.2) (fails (type_item c.args.depth) c.in_err-item.field-0.0 (types_view c.more.types.items) c.more.rest.now _ (sym c.begins.ensures ∙ c.more-test.true) c.in_err-item.ensures c.more.invariant)

pub more_types-more-smaller : goal.more_types-more-smaller
more_types-more-smaller t c = turn_shorter (type_item c.args.depth) c.more.rest.now c.in_ok-item.after.now (type_view c.in_ok-item.item) c.in_ok-item.ensures

pub more_types-more-preserved : goal.more_types-more-preserved
more_types-more-preserved t c =
    goes_on_by (type_item c.args.depth) type_view c.more.types.items c.push.new.self.items c.in_ok-item.item c.more.rest.now c.in_ok-item.after.now _ (sym c.begins.ensures ∙ c.more-test.true) c.in_ok-item.ensures c.in_ok-push.ensures.items c.more.invariant

pub more_types-returns : goal.more_types-returns
more_types-returns t c = ends (type_item c.args.depth) (types_view c.more.types.items) c.more.rest.now _ (sym c.begins.ensures ∙ c.more-test.false) c.more.invariant

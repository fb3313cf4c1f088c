use Rattle.std.proofs.Common.{sym, ◌∙◌, map}
use Rattle.std.proofs.lemmas.Result.{err_from_is_err_and}
use Rattle.midl_tree.specs.Views.{param_view}
use Rattle.midl_words.proofs.Turns.{goes_on_by, fails, ends, turn_shorter}
use Rattle.midl_parse.proofs.LoopItems.{param_item}
use Rattle.midl_parse.proofs.signatures.more_params.Goals as goal

pub returns-in_err-item : goal.returns-in_err-item
returns-in_err-item c =
    let p = err_from_is_err_and c.from_residual.result c.from_residual.ensures.1 in
    rw (p.1, p.2) (fails (param_item c.args.depth) c.in_err-item.field-0.0 (map param_view c.more.params.items) c.more.rest.now _ (sym c.begins.ensures ∙ c.more-test.true) c.in_err-item.ensures c.more.invariant)

pub more-smaller : goal.more-smaller
more-smaller c = turn_shorter (param_item c.args.depth) c.more.rest.now c.in_ok-item.after.now (param_view c.in_ok-item.item) c.in_ok-item.ensures

pub more-preserved : goal.more-preserved
more-preserved c =
    goes_on_by (param_item c.args.depth) param_view c.more.params.items c.push.new.self.items c.in_ok-item.item c.more.rest.now c.in_ok-item.after.now _ (sym c.begins.ensures ∙ c.more-test.true) c.in_ok-item.ensures c.in_ok-push.ensures.items c.more.invariant

pub returns : goal.returns
returns c = ends (param_item c.args.depth) (map param_view c.more.params.items) c.more.rest.now _ (sym c.begins.ensures ∙ c.more-test.false) c.more.invariant

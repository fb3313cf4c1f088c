use Rattle.std.proofs.Common.{sym, ◌∙◌}
use Rattle.std.proofs.lemmas.Result.{err_from_is_err_and}
use Rattle.midl_words.proofs.Turns.{goes_on, fails, ends, turn_shorter}
use Rattle.midl_parse.proofs.LoopItems.{text_item}
use Rattle.midl_parse.proofs.imports.more_texts.Goals as goal

pub returns-in_err-item : goal.returns-in_err-item
returns-in_err-item c =
    let p = err_from_is_err_and c.from_residual.result c.from_residual.ensures.1 in
    rw (p.1, p.2) (fails text_item c.in_err-item.field-0.0 c.more.texts.items c.more.rest.now _ (sym c.begins.ensures ∙ c.more-test.true) c.in_err-item.ensures c.more.invariant)

pub more-smaller : goal.more-smaller
more-smaller c = turn_shorter text_item c.more.rest.now c.in_ok-item.after.now c.in_ok-item.item c.in_ok-item.ensures

pub more-preserved : goal.more-preserved
more-preserved c =
    rw c.in_ok-push.ensures.items (goes_on text_item c.more.texts.items c.more.rest.now c.in_ok-item.after.now c.in_ok-item.item _ (sym c.begins.ensures ∙ c.more-test.true) c.in_ok-item.ensures c.more.invariant)

pub returns : goal.returns
returns c = ends text_item c.more.texts.items c.more.rest.now _ (sym c.begins.ensures ∙ c.more-test.false) c.more.invariant

use Rattle.std.proofs.Common.{sym, ◌∙◌}
use Rattle.std.proofs.lemmas.Result.{err_from_is_err_and}
use Rattle.midl_words.proofs.Turns.{goes_on, fails, ends, turn_shorter}
use Rattle.midl_words.proofs.Laws.{dot_name_item}
use Rattle.midl_words.proofs.reading.more_dots.Goals as goal

pub returns-in_err-name : goal.returns-in_err-name
returns-in_err-name c =
    let p = err_from_is_err_and c.from_residual.result c.from_residual.ensures.1 in
    rw (p.1, p.2) (fails dot_name_item c.in_err-name.field-0.0 c.more.names.items c.more.rest.now _ (sym c.begins.ensures ∙ c.more-test.true) c.in_err-name.ensures c.more.invariant)

pub more-smaller : goal.more-smaller
more-smaller c = turn_shorter dot_name_item c.more.rest.now c.in_ok-name.after.now c.in_ok-name.name c.in_ok-name.ensures

pub more-preserved : goal.more-preserved
more-preserved c =
    rw c.in_ok-push.ensures.items (goes_on dot_name_item c.more.names.items c.more.rest.now c.in_ok-name.after.now c.in_ok-name.name _ (sym c.begins.ensures ∙ c.more-test.true) c.in_ok-name.ensures c.more.invariant)

pub returns : goal.returns
returns c = ends dot_name_item c.more.names.items c.more.rest.now _ (sym c.begins.ensures ∙ c.more-test.false) c.more.invariant

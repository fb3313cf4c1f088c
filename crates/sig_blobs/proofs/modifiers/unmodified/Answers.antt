use Rattle.std.proofs.Common.{sym, ◌∙◌}
use Rattle.std.proofs.lemmas.Result.{err_from_is_err_and}
use Rattle.sig_blobs.proofs.ModifierLaws.{bare, passed, broken_by}
use Rattle.sig_blobs.proofs.modifiers.unmodified.Goals as goal

pub more-preserved : goal.more-preserved
more-preserved c = passed c.more.invariant.0 c.more.rest.now _ c.in_ok-behind.behind.now _ (sym c.begins_modifier.ensures ∙ c.more-test.true) c.more.invariant.1 (rw c.behind_first.ensures at c.in_ok-behind.ensures.found) (rw c.behind_first.ensures at c.in_ok-behind.ensures.shorter) c.more.invariant.2

pub returns : goal.returns
returns c = bare c.more.invariant.0 c.more.rest.now _ (sym c.begins_modifier.ensures ∙ c.more-test.false) c.more.invariant.1 c.more.invariant.2

pub returns-in_err-behind : goal.returns-in_err-behind
returns-in_err-behind c =
    let p = err_from_is_err_and c.from_residual.result c.from_residual.ensures.1 in
    rw (p.1, p.2) (broken_by c.in_err-behind.field-0.0 c.more.invariant.0 c.more.rest.now _ (sym c.begins_modifier.ensures ∙ c.more-test.true) c.more.invariant.1 (rw c.behind_first.ensures at c.in_err-behind.ensures.found) c.more.invariant.2)

use Rattle.std.proofs.Common.{sym, ◌∙◌}
use Rattle.std.proofs.lemmas.Result.{err_from_is_err_and}
use Rattle.midl_parse.proofs.CaseTurns.{case_goes_on, case_fails, case_last, case_ends}
use Rattle.midl_parse.proofs.enums.more_cases.Goals as goal

pub returns-then-not-begins_name : goal.returns-then-not-begins_name
returns-then-not-begins_name c =
    case_last c.more.cases.items c.more.rest.now c.in_ok-after.after.now _ _ (sym c.begins.ensures ∙ c.more-test.true) c.in_ok-after.ensures (sym c.begins_name.ensures ∙ c.if-not-begins_name.true) c.more.invariant

pub returns-in_err-case : goal.returns-in_err-case
returns-in_err-case c =
    let p = err_from_is_err_and c.from_residual-in_err-case.result c.from_residual-in_err-case.ensures.1 in
    rw (p.1, p.2) (case_fails c.in_err-case.field-0.0 c.more.cases.items c.more.rest.now c.in_ok-after.after.now _ _ (sym c.begins.ensures ∙ c.more-test.true) c.in_ok-after.ensures (sym c.begins_name.ensures ∙ c.if-not-begins_name.false) c.in_err-case.ensures c.more.invariant)

pub more-smaller : goal.more-smaller
more-smaller c = (case_goes_on c.more.cases.items c.more.rest.now c.in_ok-after.after.now c.in_ok-case.after.now _ _ _ (sym c.begins.ensures ∙ c.more-test.true) c.in_ok-after.ensures (sym c.begins_name.ensures ∙ c.if-not-begins_name.false) c.in_ok-case.ensures c.more.invariant).1

pub more-preserved : goal.more-preserved
more-preserved c =
    rw c.in_ok-push.ensures.items ((case_goes_on c.more.cases.items c.more.rest.now c.in_ok-after.after.now c.in_ok-case.after.now _ _ _ (sym c.begins.ensures ∙ c.more-test.true) c.in_ok-after.ensures (sym c.begins_name.ensures ∙ c.if-not-begins_name.false) c.in_ok-case.ensures c.more.invariant).0)

pub returns : goal.returns
returns c = case_ends c.more.cases.items c.more.rest.now _ (sym c.begins.ensures ∙ c.more-test.false) c.more.invariant

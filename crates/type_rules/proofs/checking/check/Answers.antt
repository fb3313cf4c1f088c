use Rattle.std.proofs.Common.{subst}
use Rattle.ranked.specs.First.{IsFirst}
use Rattle.wr_rules.specs.Accepted.{Broken}
use Rattle.type_rules.proofs.Answering.{cleared, none_first, one_first, not_clear, accepted, not_accepted}
use Rattle.type_rules.proofs.checking.check.Goals as goal

pub returns-in-Some-clause-ok : goal.returns-in-Some-clause-ok
returns-in-Some-clause-ok c =
    let types = c.args.types.now.types in
    let places = c.args.types.now.places in
    not_accepted types places c.requires.places c.in-Some.refusal (subst (IsFirst (Broken types places)) c.in-Some.is c.in_ok-refusal.ensures)

pub returns-in-Some-clause-only : goal.returns-in-Some-clause-only
returns-in-Some-clause-only c =
    let types = c.args.types.now.types in
    let places = c.args.types.now.places in
    not_clear types places c.in-Some.refusal (subst (IsFirst (Broken types places)) c.in-Some.is c.in_ok-refusal.ensures)

pub returns-in-Some-clause-first : goal.returns-in-Some-clause-first
returns-in-Some-clause-first c = λ e f.
    let types = c.args.types.now.types in
    let places = c.args.types.now.places in
    one_first types places e c.in-Some.refusal (subst (IsFirst (Broken types places)) c.in-Some.is c.in_ok-refusal.ensures) f

pub returns-in-None-clause-accepted : goal.returns-in-None-clause-accepted
returns-in-None-clause-accepted c =
    let types = c.args.types.now.types in
    let places = c.args.types.now.places in
    accepted types places c.requires.places c.requires.proper (subst (IsFirst (Broken types places)) c.in-None.is c.in_ok-refusal.ensures)

pub returns-in-None-clause-clear : goal.returns-in-None-clause-clear
returns-in-None-clause-clear c =
    let types = c.args.types.now.types in
    let places = c.args.types.now.places in
    cleared types places (subst (IsFirst (Broken types places)) c.in-None.is c.in_ok-refusal.ensures)

pub returns-in-None-clause-first : goal.returns-in-None-clause-first
returns-in-None-clause-first c = λ e f.
    let types = c.args.types.now.types in
    let places = c.args.types.now.places in
    none_first types places e (subst (IsFirst (Broken types places)) c.in-None.is c.in_ok-refusal.ensures) f

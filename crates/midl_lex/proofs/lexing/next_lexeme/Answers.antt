use Rattle.std.proofs.Common.{None, Some, sym, ◌∙◌}
use Rattle.std.proofs.lemmas.List.{length-take-le}
use Rattle.midl_lex.proofs.Steps.{scan_fits, next_none, next_some}
use Rattle.midl_lex.proofs.lexing.next_lexeme.Goals as goal

pub returns-in_default-clause-value : goal.returns-in_default-clause-value
returns-in_default-clause-value c = next_none c.args.rest.now c.fault_of.result (sym c.in_default.is ∙ c.scan.ensures) c.fault_of.ensures

pub slice_bounds-excess-end : goal.slice_bounds-excess-end
slice_bounds-excess-end c = sym (length-take-le c.in-Some.len c.args.rest.now (scan_fits c.args.rest.now c.in-Some.kind c.in-Some.len (sym c.in-Some.is ∙ c.scan.ensures)))

pub returns-in-None-clause-value : goal.returns-in-None-clause-value
returns-in-None-clause-value c = next_some c.args.rest.now c.in-Some.kind c.in-Some.len None (sym c.in-Some.is ∙ c.scan.ensures) (sym c.in-None.is ∙ c.excess.ensures)

pub returns-in-None-clause-within : goal.returns-in-None-clause-within
returns-in-None-clause-within c = scan_fits c.args.rest.now c.in-Some.kind c.in-Some.len (sym c.in-Some.is ∙ c.scan.ensures)

pub returns-in-Some-excess-clause-value : goal.returns-in-Some-excess-clause-value
returns-in-Some-excess-clause-value c = next_some c.args.rest.now c.in-Some.kind c.in-Some.len (Some c.in-Some-excess.fault) (sym c.in-Some.is ∙ c.scan.ensures) (sym c.in-Some-excess.is ∙ c.excess.ensures)

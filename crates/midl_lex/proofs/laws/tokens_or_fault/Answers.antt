use Rattle.midl_lex.proofs.Firsts.{lexes_no_fault, one_first}
use Rattle.midl_lex.proofs.Outcomes.{one_without_fault, first_of_faults}
use Rattle.midl_lex.proofs.laws.tokens_or_fault.Goals as goal

pub returns-clause-one : goal.returns-clause-one
returns-clause-one c = one_without_fault c.args._bytes.now

pub returns-clause-none : goal.returns-clause-none
returns-clause-none c = λ offset fault pieces h l. lexes_no_fault c.args._bytes.now pieces offset fault l h

pub returns-clause-first : goal.returns-clause-first
returns-clause-first c = first_of_faults c.args._bytes.now

pub returns-clause-same : goal.returns-clause-same
returns-clause-same c = one_first c.args._bytes.now

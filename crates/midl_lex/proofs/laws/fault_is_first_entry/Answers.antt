use Rattle.midl_lex.proofs.Entering.{entered, nothing_entered}
use Rattle.midl_lex.proofs.laws.fault_is_first_entry.Goals as goal

pub returns-clause-fault : goal.returns-clause-fault
returns-clause-fault c = entered c.args._file c.args._bytes.now

pub returns-clause-none : goal.returns-clause-none
returns-clause-none c = nothing_entered c.args._file c.args._bytes.now

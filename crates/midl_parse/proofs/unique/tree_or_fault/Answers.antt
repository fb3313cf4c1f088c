use Rattle.midl_parse.proofs.Entering.{nothing_entered, some_entered}
use Rattle.midl_parse.proofs.unique.tree_or_fault.Goals as goal

pub returns-clause-none : goal.returns-clause-none
returns-clause-none c = nothing_entered c.args._file

pub returns-clause-first : goal.returns-clause-first
returns-clause-first c = some_entered c.args._file

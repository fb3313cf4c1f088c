use Rattle.midl_parse.proofs.FileLaws.{is_found, is_only, is_fault}
use Rattle.midl_parse.proofs.parsing.source_of.Goals as goal

pub returns-clause-found : goal.returns-clause-found
returns-clause-found c = is_found c.args.tokens.now c.all_of.result c.all_of.ensures.gives

pub returns-clause-only : goal.returns-clause-only
returns-clause-only c = is_only c.args.tokens.now c.all_of.result c.all_of.ensures.gives

pub returns-clause-fault : goal.returns-clause-fault
returns-clause-fault c = is_fault c.args.tokens.now c.all_of.result c.all_of.ensures.gives

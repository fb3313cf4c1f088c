use Rattle.declared_names.proofs.Worded.{tree_worded, reads_worded}
use Rattle.declared_names.proofs.laws.read_trees_are_worded.Goals as goal

pub returns-clause-one : goal.returns-clause-one
returns-clause-one c = tree_worded

pub returns-clause-all_ : goal.returns-clause-all_
returns-clause-all_ c = reads_worded

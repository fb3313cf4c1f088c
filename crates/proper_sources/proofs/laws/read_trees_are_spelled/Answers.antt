use Rattle.proper_sources.proofs.Reading.{tree_spelled, reads_spelled}
use Rattle.proper_sources.proofs.laws.read_trees_are_spelled.Goals as goal

pub returns-clause-one : goal.returns-clause-one
returns-clause-one c = tree_spelled

pub returns-clause-all_ : goal.returns-clause-all_
returns-clause-all_ c = reads_spelled

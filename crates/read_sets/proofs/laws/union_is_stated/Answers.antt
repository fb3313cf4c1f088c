use Rattle.read_sets.proofs.SetFacts.{union_stated, union_unguided}
use Rattle.read_sets.proofs.laws.union_is_stated.Goals as goal

pub returns : goal.returns
returns c = record { stated = union_stated; no_guid = union_unguided }

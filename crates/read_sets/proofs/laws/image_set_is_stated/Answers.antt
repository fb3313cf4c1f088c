use Rattle.read_sets.proofs.SetFacts.{set_stated, set_unguided}
use Rattle.read_sets.proofs.laws.image_set_is_stated.Goals as goal

pub returns : goal.returns
returns c = record { stated = set_stated; no_guid = set_unguided }

use Rattle.proper_sources.proofs.Proper.{sources_proper}
use Rattle.proper_sources.proofs.laws.full_types_are_proper.Goals as goal

pub returns : goal.returns
returns c = sources_proper

use Rattle.stated_sources.proofs.Owners.{sources_stated}
use Rattle.stated_sources.proofs.laws.full_types_are_stated.Goals as goal

pub returns : goal.returns
returns c = sources_stated

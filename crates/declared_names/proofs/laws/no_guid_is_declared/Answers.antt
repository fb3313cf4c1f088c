use Rattle.declared_names.proofs.Full.{none_declared}
use Rattle.declared_names.proofs.laws.no_guid_is_declared.Goals as goal

pub returns : goal.returns
returns c = none_declared

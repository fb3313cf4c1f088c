use Rattle.writable_sets.proofs.Writing.{guid_free}
use Rattle.writable_sets.proofs.laws.guid_is_the_base_type.Goals as goal

pub returns : goal.returns
returns c = guid_free

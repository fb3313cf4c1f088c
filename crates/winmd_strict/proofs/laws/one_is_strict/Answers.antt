use Rattle.winmd_strict.proofs.OneImage.{one_strict, one_read}
use Rattle.winmd_strict.proofs.laws.one_is_strict.Goals as goal

pub returns : goal.returns
returns c = record { strict = one_strict; states = one_read }

use Rattle.winmd_image.proofs.FoundLaws.{taken_apart}
use Rattle.winmd_image.proofs.laws.wrapped_is_unwrapped.Goals as goal

pub returns : goal.returns
returns c = taken_apart

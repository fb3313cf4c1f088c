use Rattle.std.proofs.Common.{refl}
use Rattle.sig_blobs.specs.Reading.{integer}
use Rattle.sig_blobs.specs.Templates.{decimal_of}
use Rattle.sig_blobs.specs.Uses.{behind_modifiers, use_within}
use Rattle.winmd_sets.proofs.examples.outside_is_referred_to.Goals as goal

pub returns : goal.returns
unfolding decimal_of integer behind_modifiers use_within
returns c = record { refs = refl; fields = refl; read = refl }

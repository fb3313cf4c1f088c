use Rattle.std.proofs.Common.{refl}
use Rattle.sig_blobs.specs.Reading.{integer}
use Rattle.sig_blobs.specs.Templates.{decimal_of}
use Rattle.sig_blobs.specs.Uses.{behind_modifiers, use_within}
use Rattle.winmd_sets.proofs.examples.faults_are_as_defined.Goals as goal

pub returns : goal.returns
unfolding decimal_of integer behind_modifiers use_within
returns c = record {
  generic = refl;
  generic_method = refl;
  nested = refl;
  encloses = refl;
  two_versions = refl;
  own_attribute = refl;
  twice = refl;
  last_type = refl;
  many_types = refl;
  last_part = refl;
  many_parts = refl;
  list_at_0 = refl;
  list_of_none = refl;
  module_row = refl;
  joined = refl;
  holder = refl;
  holder_type = refl;
}

use Rattle.std.proofs.Common.{refl}
use Rattle.std.specs.Str.{chars, is_utf8}
use Rattle.std.specs.Char.{encode_utf8}
use Rattle.md_bytes.specs.Padding.{zeros}
use Rattle.md_schema.specs.Tables.{upto, bits_set}
use Rattle.md_tables.specs.Faults.{first_from, disorder}
use Rattle.sig_blobs.specs.Reading.{integer}
use Rattle.sig_blobs.specs.Uses.{behind_modifiers, use_within}
use Rattle.sig_blobs.specs.Templates.{decimal_of}
use Rattle.winmd_sets.specs.Mix.{mix_image}
use Rattle.winmd_examples.proofs.edits.mix_edits_state.Goals as goal

pub returns-clause-structs : goal.returns-clause-structs
unfolding chars encode_utf8 is_utf8 zeros upto bits_set first_from disorder integer behind_modifiers use_within decimal_of mix_image
returns-clause-structs c = refl

pub returns-clause-instances : goal.returns-clause-instances
unfolding chars encode_utf8 is_utf8 zeros upto bits_set first_from disorder integer behind_modifiers use_within decimal_of mix_image
returns-clause-instances c = refl

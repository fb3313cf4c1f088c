use Rattle.std.proofs.Common.{refl}
use Rattle.std.specs.Str.{chars, is_utf8}
use Rattle.std.specs.Char.{encode_utf8}
use Rattle.md_bytes.specs.Padding.{zeros}
use Rattle.md_schema.specs.Tables.{upto, bits_set}
use Rattle.md_tables.specs.Faults.{first_from, disorder}
use Rattle.sig_blobs.specs.Reading.{integer}
use Rattle.sig_blobs.specs.Uses.{behind_modifiers, use_within}
use Rattle.winmd_examples.specs.Built.{letters}
use Rattle.winmd_examples.proofs.built.built_images_state.Goals as goal

pub returns-clause-lists : goal.returns-clause-lists
unfolding chars encode_utf8 is_utf8 zeros upto bits_set first_from disorder integer behind_modifiers use_within letters
returns-clause-lists c = refl

pub returns-clause-types : goal.returns-clause-types
unfolding chars encode_utf8 is_utf8 zeros upto bits_set first_from disorder integer behind_modifiers use_within letters
returns-clause-types c = refl

pub returns-clause-attributes : goal.returns-clause-attributes
unfolding chars encode_utf8 is_utf8 zeros upto bits_set first_from disorder integer behind_modifiers use_within letters
returns-clause-attributes c = refl

pub returns-clause-names : goal.returns-clause-names
unfolding chars encode_utf8 is_utf8 zeros upto bits_set first_from disorder integer behind_modifiers use_within letters
returns-clause-names c = refl

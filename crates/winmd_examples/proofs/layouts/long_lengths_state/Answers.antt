use Rattle.std.proofs.Common.{refl}
use Rattle.std.specs.Str.{chars, is_utf8}
use Rattle.std.specs.Char.{encode_utf8}
use Rattle.md_bytes.specs.Padding.{zeros}
use Rattle.md_schema.specs.Tables.{upto, bits_set}
use Rattle.md_tables.specs.Faults.{first_from, disorder}
use Rattle.sig_blobs.specs.Reading.{integer}
use Rattle.sig_blobs.specs.Uses.{behind_modifiers, use_within}
use Rattle.winmd_examples.proofs.layouts.long_lengths_state.Goals as goal

pub returns-clause-of_two : goal.returns-clause-of_two
unfolding chars encode_utf8 is_utf8 zeros upto bits_set first_from disorder integer behind_modifiers use_within
returns-clause-of_two c = refl

pub returns-clause-of_four : goal.returns-clause-of_four
unfolding chars encode_utf8 is_utf8 zeros upto bits_set first_from disorder integer behind_modifiers use_within
returns-clause-of_four c = refl

pub returns-clause-long_value : goal.returns-clause-long_value
unfolding chars encode_utf8 is_utf8 zeros upto bits_set first_from disorder integer behind_modifiers use_within
returns-clause-long_value c = refl

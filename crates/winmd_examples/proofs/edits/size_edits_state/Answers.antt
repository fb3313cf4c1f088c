use Rattle.std.proofs.Common.{refl}
use Rattle.std.specs.Str.{chars, is_utf8}
use Rattle.std.specs.Char.{encode_utf8}
use Rattle.md_bytes.specs.Padding.{zeros}
use Rattle.md_schema.specs.Tables.{upto, bits_set}
use Rattle.md_tables.specs.Faults.{first_from, disorder}
use Rattle.sig_blobs.specs.Reading.{integer}
use Rattle.sig_blobs.specs.Uses.{behind_modifiers, use_within}
use Rattle.winmd_examples.proofs.edits.size_edits_state.Goals as goal

pub returns-clause-states : goal.returns-clause-states
unfolding chars encode_utf8 is_utf8 zeros upto bits_set first_from disorder integer behind_modifiers use_within
returns-clause-states c = refl

pub returns-clause-headers : goal.returns-clause-headers
unfolding chars encode_utf8 is_utf8 zeros upto bits_set first_from disorder integer behind_modifiers use_within
returns-clause-headers c = refl

pub returns-clause-stream : goal.returns-clause-stream
unfolding chars encode_utf8 is_utf8 zeros upto bits_set first_from disorder integer behind_modifiers use_within
returns-clause-stream c = refl

pub returns-clause-rows : goal.returns-clause-rows
unfolding chars encode_utf8 is_utf8 zeros upto bits_set first_from disorder integer behind_modifiers use_within
returns-clause-rows c = refl

pub returns-clause-others : goal.returns-clause-others
unfolding chars encode_utf8 is_utf8 zeros upto bits_set first_from disorder integer behind_modifiers use_within
returns-clause-others c = refl

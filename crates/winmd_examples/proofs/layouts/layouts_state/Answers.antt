use Rattle.std.proofs.Common.{refl}
use Rattle.std.specs.Str.{chars, is_utf8}
use Rattle.std.specs.Char.{encode_utf8}
use Rattle.md_bytes.specs.Padding.{zeros}
use Rattle.md_schema.specs.Tables.{upto, bits_set}
use Rattle.md_tables.specs.Faults.{first_from, disorder}
use Rattle.sig_blobs.specs.Reading.{integer}
use Rattle.sig_blobs.specs.Uses.{behind_modifiers, use_within}
use Rattle.winmd_examples.proofs.layouts.layouts_state.Goals as goal

pub returns-clause-one_section : goal.returns-clause-one_section
unfolding chars encode_utf8 is_utf8 zeros upto bits_set first_from disorder integer behind_modifiers use_within
returns-clause-one_section c = refl

pub returns-clause-long_addresses : goal.returns-clause-long_addresses
unfolding chars encode_utf8 is_utf8 zeros upto bits_set first_from disorder integer behind_modifiers use_within
returns-clause-long_addresses c = refl

pub returns-clause-two_sections : goal.returns-clause-two_sections
unfolding chars encode_utf8 is_utf8 zeros upto bits_set first_from disorder integer behind_modifiers use_within
returns-clause-two_sections c = refl

pub returns-clause-another_order : goal.returns-clause-another_order
unfolding chars encode_utf8 is_utf8 zeros upto bits_set first_from disorder integer behind_modifiers use_within
returns-clause-another_order c = refl

pub returns-clause-long_texts : goal.returns-clause-long_texts
unfolding chars encode_utf8 is_utf8 zeros upto bits_set first_from disorder integer behind_modifiers use_within
returns-clause-long_texts c = refl

pub returns-clause-long_guids : goal.returns-clause-long_guids
unfolding chars encode_utf8 is_utf8 zeros upto bits_set first_from disorder integer behind_modifiers use_within
returns-clause-long_guids c = refl

pub returns-clause-long_blobs : goal.returns-clause-long_blobs
unfolding chars encode_utf8 is_utf8 zeros upto bits_set first_from disorder integer behind_modifiers use_within
returns-clause-long_blobs c = refl

pub returns-clause-all_long : goal.returns-clause-all_long
unfolding chars encode_utf8 is_utf8 zeros upto bits_set first_from disorder integer behind_modifiers use_within
returns-clause-all_long c = refl

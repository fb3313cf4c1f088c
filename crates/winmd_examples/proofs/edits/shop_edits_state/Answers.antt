use Rattle.std.proofs.Common.{refl}
use Rattle.std.specs.Str.{chars, is_utf8}
use Rattle.std.specs.Char.{encode_utf8}
use Rattle.md_bytes.specs.Padding.{zeros}
use Rattle.md_schema.specs.Tables.{upto, bits_set}
use Rattle.md_tables.specs.Faults.{first_from, disorder}
use Rattle.sig_blobs.specs.Reading.{integer}
use Rattle.sig_blobs.specs.Uses.{behind_modifiers, use_within}
use Rattle.sig_blobs.specs.Templates.{decimal_of}
use Rattle.winmd_sets.specs.Shop.{shop_image}
use Rattle.winmd_examples.proofs.edits.shop_edits_state.Goals as goal

pub returns-clause-delegates : goal.returns-clause-delegates
unfolding chars encode_utf8 is_utf8 zeros upto bits_set first_from disorder integer behind_modifiers use_within decimal_of shop_image
returns-clause-delegates c = refl

pub returns-clause-classes : goal.returns-clause-classes
unfolding chars encode_utf8 is_utf8 zeros upto bits_set first_from disorder integer behind_modifiers use_within decimal_of shop_image
returns-clause-classes c = refl

pub returns-clause-interfaces : goal.returns-clause-interfaces
unfolding chars encode_utf8 is_utf8 zeros upto bits_set first_from disorder integer behind_modifiers use_within decimal_of shop_image
returns-clause-interfaces c = refl

pub returns-clause-enums : goal.returns-clause-enums
unfolding chars encode_utf8 is_utf8 zeros upto bits_set first_from disorder integer behind_modifiers use_within decimal_of shop_image
returns-clause-enums c = refl

pub returns-clause-lists : goal.returns-clause-lists
unfolding chars encode_utf8 is_utf8 zeros upto bits_set first_from disorder integer behind_modifiers use_within decimal_of shop_image
returns-clause-lists c = refl

-- The word of a fundamental type is its word.
use Rattle.std.proofs.Common.{◌≡◌, Some, refl}
use Rattle.wr_base.specs.declared.type_use.Base.{Base}
use Rattle.wr_base.specs.declared.type_use.Base.TheVariants.{Boolean, Char, U8, I16, U16, I32, U32, I64, U64, Text, Guid, Object}
use Rattle.wr_base.specs.Uses.{word_of}
use Rattle.wr_base.specs.Words.{base_of_word}

pub base_of_word-word_of : (base : Base) → base_of_word (word_of base) ≡ Some base
unfolding base_of_word
base_of_word-word_of Boolean = refl
base_of_word-word_of Char = refl
base_of_word-word_of U8 = refl
base_of_word-word_of I16 = refl
base_of_word-word_of U16 = refl
base_of_word-word_of I32 = refl
base_of_word-word_of U32 = refl
base_of_word-word_of I64 = refl
base_of_word-word_of U64 = refl
base_of_word-word_of Text = refl
base_of_word-word_of Guid = refl
base_of_word-word_of Object = refl

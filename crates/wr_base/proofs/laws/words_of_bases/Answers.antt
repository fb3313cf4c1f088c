use Rattle.wr_base.proofs.WordLaws.{base_of_word-word_of}
use Rattle.wr_base.proofs.laws.words_of_bases.Goals as goal

pub returns : goal.returns
returns c = base_of_word-word_of

use Rattle.std.proofs.Common.{map}
use Rattle.midl_words.specs.Words.{terminal_of}
use Rattle.midl_parse.proofs.OneTree.{one_source}
use Rattle.midl_parse.proofs.unique.one_tree.Goals as goal

pub returns : goal.returns
returns c = λ pieces a b. one_source (map terminal_of pieces) a b

-- Sources that are the trees of tokens, each of which has the kind of its text.
use Rattle.std.specs.Prelude.{List, map}
use Rattle.std.specs.List.{All}
use Rattle.midl_lex.specs.Pieces.{Piece}
use Rattle.midl_tree.specs.Trees.{SourceTree}
use Rattle.midl_words.specs.Words.{terminal_of}
use Rattle.midl_parse.specs.Files.{IsSource}
use Rattle.midl_names.specs.Items.{Source}

-- some tokens, as the grammar sees them by their texts, spell the tree
pub record IsWorded (tree : SourceTree) : Type 0 where
  pub pieces : List Piece
  pub spells : IsSource (map terminal_of pieces) tree

-- the tree of each source is spelled so
abbrev pub AreWorded : List Source → Type 0
AreWorded = All (λ (s : Source). IsWorded s.tree)

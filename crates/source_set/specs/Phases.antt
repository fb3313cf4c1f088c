-- What is broken in the bytes of a file, and the tree that they have where nothing is.
use Rattle.std.specs.Prelude.{ℕ, List, map, Some}
use Rattle.ranked.specs.Entries.{Entry}
use Rattle.ranked.specs.First.{Then, IsFirst}
use Rattle.ranked.specs.declared.stop.Stop.{Stop}
use Rattle.ranked.specs.declared.stop.Stop.TheVariants.{Refused, Memory}
use Rattle.midl_lex.specs.Pieces.{Piece}
use Rattle.midl_lex.specs.Tokens.{Lexes}
use Rattle.midl_lex.specs.Entries.{Lexical}
use Rattle.midl_words.specs.Words.{terminal_of}
use Rattle.midl_tree.specs.Trees.{SourceTree}
use Rattle.midl_parse.specs.Files.{IsSource}
use Rattle.midl_parse.specs.Entries.{Parsing}

-- the bytes have these tokens, and the tokens this tree
pub record HasTree (bytes : List ℕ) (tree : SourceTree) : Type 0 where
  pub pieces : List Piece
  pub lexes : Lexes bytes pieces
  pub spells : IsSource (map terminal_of pieces) tree

-- where the tokens of the bytes have no tree
unfoldable pub Unparsed : ℕ → List ℕ → Entry → Type 0
Unparsed number bytes e = (pieces : List Piece) × Lexes bytes pieces × Parsing number pieces e

-- a file is lexed, and then parsed
abbrev pub Faulty : ℕ → List ℕ → Entry → Type 0
Faulty number bytes = Then (Lexical number bytes) (Unparsed number bytes)

-- the refusal is the first fault of the file
abbrev pub RefusesFile : ℕ → List ℕ → Stop Entry → Type 0
RefusesFile number bytes Memory = Unit {0}
RefusesFile number bytes (Refused e) = IsFirst (Faulty number bytes) (Some e)

-- What is said of the definitions alone.
use Rattle.std.specs.Prelude.{◌≡◌, ℕ, List}
use Rattle.midl_lex.specs.Pieces.{Piece}
use Rattle.midl_lex.specs.Tokens.{Lexes}

-- these are the tokens of the bytes, and no others are
pub record IsOnly (bytes : List ℕ) (pieces : List Piece) : Type 0 where
  pub is : Lexes bytes pieces
  pub only : (other : List Piece) → Lexes bytes other → other ≡ pieces

-- Tokens, without where they lie in memory.
use Rattle.std.specs.Prelude.{◌≡◌, ℕ, ◌+◌, ◌<◌, ◌^◌, nat_lt, if◌then◌else◌, List, length, Option, Some, None}
use Rattle.midl_lex.specs.declared.fault.Fault.{Fault}
use Rattle.midl_lex.specs.declared.fault.Fault.TheVariants.{WideNumber, LongName}
use Rattle.midl_lex.specs.declared.token.TokenKind.{TokenKind}
use Rattle.midl_lex.specs.declared.token.TokenKind.TheVariants.{Word, Number, Guid, Text, Mark}
use Rattle.midl_lex.specs.declared.token.LexemeKind.TheVariants.{Token}
use Rattle.midl_lex.specs.Lexemes.{IsLexeme}
use Rattle.midl_lex.specs.Numbers.{value_of}

-- the offset of a token in its file, its kind and its spelling
pub record Piece : Type 0 where
  pub offset : ℕ
  pub kind : TokenKind
  pub text : List ℕ

-- what is too much about a token: a word above 255 bytes, a number of 2^64 or more
abbrev pub excess_of : TokenKind → List ℕ → Option Fault
excess_of Word text = if nat_lt 255 (length text) then Some LongName else None
excess_of Number text = if nat_lt (value_of text) (2 ^ 64) then None else Some WideNumber
excess_of Guid text = None
excess_of Text text = None
excess_of Mark text = None

-- a token is spelled as its kind says, and nothing is too much about it
pub record Fits (p : Piece) : Type 0 where
  pub is : IsLexeme (Token p.kind) p.text
  pub fits : excess_of p.kind p.text ≡ None

-- it is, and it ends at an offset of 32 bits
pub record IsToken (p : Piece) : Type 0 where
  pub fits : Fits p
  pub ends : p.offset + length p.text < 2 ^ 32

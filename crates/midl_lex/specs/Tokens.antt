-- The tokens of a file.
use Rattle.std.specs.Prelude.{◌≡◌, ℕ, ◌+◌, if◌then◌else◌, List, [], ◌∷◌, ◌++◌, length, Option, None, ◌==◌, ◌&&◌}
use Rattle.std.specs.Str.{IsUtf8}
use Rattle.midl_lex.specs.declared.fault.Fault.{Fault}
use Rattle.midl_lex.specs.declared.token.LexemeKind.{LexemeKind}
use Rattle.midl_lex.specs.declared.token.LexemeKind.TheVariants.{White, LineComment, BlockComment, Token}
use Rattle.midl_lex.specs.Lexemes.{Lexeme, IsLongest}
use Rattle.midl_lex.specs.Pieces.{Piece, excess_of}

-- the length of the byte order mark at the front, EF BB BF, or 0 where none is
abbrev pub mark_len : List ℕ → ℕ
mark_len [] = 0
mark_len (a ∷ []) = 0
mark_len (a ∷ b ∷ []) = 0
mark_len (a ∷ b ∷ c ∷ rest) = if (a == 0xEF) && ((b == 0xBB) && (c == 0xBF)) then 3 else 0

-- the bytes from one offset to another are these lexemes: each begins where the one before it ends,
-- and is the longest at its offset
abbrev pub Cuts : List ℕ → ℕ → List Lexeme → ℕ → Type 0
Cuts bytes from [] to = from ≡ to
Cuts bytes from (l ∷ ls) to = (l.offset ≡ from) × IsLongest bytes l × Cuts bytes (from + length l.text) ls to

-- white space and comments are no tokens
abbrev pub token_if : ℕ → LexemeKind → List ℕ → List Piece
token_if offset White text = []
token_if offset LineComment text = []
token_if offset BlockComment text = []
token_if offset (Token kind) text = record { offset = offset; kind = kind; text = text } ∷ []

abbrev pub tokens_of : List Lexeme → List Piece
tokens_of [] = []
tokens_of (l ∷ ls) = token_if l.offset l.kind l.text ++ tokens_of ls

-- what is too much about a lexeme
abbrev pub excess : LexemeKind → List ℕ → Option Fault
excess White text = None
excess LineComment text = None
excess BlockComment text = None
excess (Token kind) text = excess_of kind text

-- nothing is too much
abbrev pub AllFit : List Lexeme → Type 0
AllFit [] = Unit {0}
AllFit (l ∷ ls) = (excess l.kind l.text ≡ None) × AllFit ls

-- the bytes are UTF-8, all of them behind an optional byte order mark are lexemes, each the longest at its offset,
-- and these are the tokens among them
pub record Lexes (bytes : List ℕ) (pieces : List Piece) : Type 0 where
  pub utf8 : IsUtf8 bytes
  pub lexemes : List Lexeme
  pub cut : Cuts bytes (mark_len bytes) lexemes (length bytes)
  pub fit : AllFit lexemes
  pub are : pieces ≡ tokens_of lexemes

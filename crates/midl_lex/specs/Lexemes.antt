-- What a lexeme is: a token, white space or a comment.
use Rattle.std.specs.Prelude.{◌≡◌, ℕ, ◌≤◌, true, List, [], ◌∷◌, ◌++◌, length, drop, Some}
use Rattle.midl_lex.specs.declared.token.TokenKind.TheVariants.{Word, Number, Guid, Text, Mark}
use Rattle.midl_lex.specs.declared.token.LexemeKind.{LexemeKind}
use Rattle.midl_lex.specs.declared.token.LexemeKind.TheVariants.{White, LineComment, BlockComment, Token}
use Rattle.midl_lex.specs.Bytes.{is_white, is_letter, is_word, is_plain, not_line_feed, all_pass}
use Rattle.midl_lex.specs.Comments.{find_end}
use Rattle.midl_lex.specs.Numbers.{IsNumber}
use Rattle.midl_lex.specs.Guids.{guid_from}
use Rattle.midl_lex.specs.Scan.{is_mark}

-- the bytes, all of them, are one lexeme of the kind
abbrev pub IsLexeme : LexemeKind → List ℕ → Type 0
-- one byte of white space
IsLexeme White bs = (b : ℕ) × (bs ≡ b ∷ []) × (is_white b ≡ true)
-- two slashes, and no line feed behind them
IsLexeme LineComment bs = (body : List ℕ) × (bs ≡ 47 ∷ 47 ∷ body) × (all_pass not_line_feed body ≡ true)
-- a slash and a star; the first */ behind them stands at the end
IsLexeme BlockComment bs = (body : List ℕ) × (bs ≡ 47 ∷ 42 ∷ body) × (find_end body ≡ Some (length body))
-- a letter or _, then letters, digits and _
IsLexeme (Token Word) bs = (b : ℕ) × (body : List ℕ) × (bs ≡ b ∷ body) × (is_letter b ≡ true) × (all_pass is_word body ≡ true)
IsLexeme (Token Number) bs = IsNumber bs
IsLexeme (Token Guid) bs = (length bs ≡ 36) × (guid_from 36 0 bs ≡ true)
-- plain bytes between quotation marks
IsLexeme (Token Text) bs = (body : List ℕ) × (bs ≡ 34 ∷ (body ++ 34 ∷ [])) × (all_pass is_plain body ≡ true)
IsLexeme (Token Mark) bs = (b : ℕ) × (bs ≡ b ∷ []) × (is_mark b ≡ true)

-- the text stands in the bytes at the offset
abbrev pub Stands : List ℕ → ℕ → List ℕ → Type 0
Stands bytes offset text = (back : List ℕ) × (drop offset bytes ≡ text ++ back)

-- a lexeme in its file
pub record Lexeme : Type 0 where
  pub offset : ℕ
  pub kind : LexemeKind
  pub text : List ℕ

-- it stands in the bytes at its offset, and no lexeme that stands there is longer
pub record IsLongest (bytes : List ℕ) (l : Lexeme) : Type 0 where
  pub stands : Stands bytes l.offset l.text
  pub is : IsLexeme l.kind l.text
  pub longest : (other : LexemeKind) (text : List ℕ) → Stands bytes l.offset text → IsLexeme other text → length text ≤ length l.text

-- no lexeme stands at the offset
abbrev pub NoLexeme : List ℕ → ℕ → Type 0
NoLexeme bytes offset = (kind : LexemeKind) (text : List ℕ) → Stands bytes offset text → IsLexeme kind text → ⊥

-- The line that a refusal puts on err.
use Rattle.std.specs.Prelude.{◌≡◌, ℕ, ◌+◌, ◌==◌, List, [], ◌∷◌, ◌++◌, length, take, count_by, codes}
use Rattle.std.specs.Fmt.{decimal}
use Rattle.ranked.specs.Entries.{Entry}
use Rattle.wr_base.specs.Codes.{rank_of, code_name}
use Rattle.wr_base.specs.declared.code.Code.{Code}
use Rattle.wr_base.specs.Parts.{behind_last}

-- the line of an offset, from 1: line feeds end lines
abbrev pub line_at : List ℕ → ℕ → ℕ
line_at bytes offset = count_by (λ b. b == 10) (take offset bytes) + 1

-- its column, in bytes from 1
abbrev pub column_at : List ℕ → ℕ → ℕ
column_at bytes offset = length (behind_last 10 (take offset bytes)) + 1

-- a word with `: ` before it; none where there is none
abbrev pub word_part : List ℕ → List ℕ
word_part [] = []
word_part (b ∷ bs) = codes ": " ++ b ∷ bs

-- `NAME(LINE,COL): CODE`
abbrev pub head_of : List ℕ → ℕ → ℕ → List ℕ → List ℕ
head_of name line column code = name ++ (codes "(" ++ (decimal line ++ (codes "," ++ (decimal column ++ (codes "): " ++ code)))))

-- `NAME(LINE,COL): CODE: WORD` and a line feed, without `: WORD` where there is no word
pub record IsRefusalLine (name bytes : List ℕ) (e : Entry) (line : List ℕ) : Type 0 where
  pub code : Code
  pub ranked : rank_of code ≡ e.code
  pub is : line ≡ head_of name (line_at bytes e.offset) (column_at bytes e.offset) (code_name code) ++ word_part e.word ++ codes "\n"

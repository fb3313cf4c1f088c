-- The fault of parsing a file as an entry in the order of refusals, and what parsing answers.
use Rattle.std.specs.Prelude.{ℕ, ◌+◌, length, Option, Some, None, ◌-◌, List, slice_get, codes, ◌≡◌, map, Result, Ok, Err}
use Rattle.ranked.specs.Entries.{Entry}
use Rattle.ranked.specs.First.{IsFirst}
use Rattle.ranked.specs.declared.stop.Stop.{Stop}
use Rattle.ranked.specs.declared.stop.Stop.TheVariants.{Refused, Memory}
use Rattle.wr_base.specs.declared.code.Code.{Code as AnyCode}
use Rattle.wr_base.specs.Codes.{rank_of}
use Rattle.midl_lex.specs.Pieces.{Piece}
use Rattle.midl_tree.specs.declared.nodes.File.{File}
use Rattle.midl_tree.specs.Trees.{SourceTree}
use Rattle.midl_tree.specs.Views.{source_view}
use Rattle.midl_words.specs.declared.stop.Code.{Code}
use Rattle.midl_words.specs.declared.stop.Code.TheVariants.{Syntax, FloatType, UnknownAttribute, TooDeep}
use Rattle.midl_words.specs.Words.{terminal_of}
use Rattle.midl_parse.specs.Faults.{IsFault}
use Rattle.wr_base.specs.declared.code.Code.TheVariants as all

-- the code among all that a source may be refused with
abbrev pub code_of : Code → AnyCode
code_of Syntax = all.Syntax
code_of FloatType = all.FloatType
code_of UnknownAttribute = all.UnknownAttribute
code_of TooDeep = all.TooDeep

abbrev pub end_of_piece : Option Piece → ℕ
end_of_piece None = 0
end_of_piece (Some p) = p.offset + length p.text

-- the offset just past the last token
abbrev pub end_of : List Piece → ℕ
end_of pieces = end_of_piece (slice_get pieces (length pieces - 1))

-- at a token with its text, or at the end with the words for it
abbrev pub entry_at : ℕ → ℕ → ℕ → Option Piece → Entry
entry_at file end code None = record { file = file; offset = end; code = code; word = codes "end of file" }
entry_at file end code (Some p) = record { file = file; offset = p.offset; code = code; word = p.text }

-- a fault as a refusal: at the first of the tokens that are left, or at the end of the file where none is
abbrev pub entry : ℕ → List Piece → Code → ℕ → Entry
entry file pieces code left = entry_at file (end_of pieces) (rank_of (code_of code)) (slice_get pieces (length pieces - left))

-- the parsing phase of a file
unfoldable pub Parsing : ℕ → List Piece → Entry → Type 0
Parsing file pieces e = (code : Code) × (left : ℕ) × IsFault (map terminal_of pieces) code left × (e ≡ entry file pieces code left)

-- the refusal is the first fault
abbrev pub RefusedFirst : ℕ → List Piece → Stop Entry → Type 0
RefusedFirst file pieces Memory = Unit {0}
RefusedFirst file pieces (Refused e) = IsFirst (Parsing file pieces) (Some e)

-- the result has this tree, unless memory ran out
abbrev pub Parses : SourceTree → Result File (Stop Entry) → Type 0
Parses tree (Ok f) = source_view f ≡ tree
Parses tree (Err Memory) = Unit {0}
Parses tree (Err (Refused e)) = ⊥

-- the result is this refusal, unless memory ran out
abbrev pub Refuses : Entry → Result File (Stop Entry) → Type 0
Refuses entry (Ok f) = ⊥
Refuses entry (Err Memory) = Unit {0}
Refuses entry (Err (Refused e)) = e ≡ entry

-- What may be wrong with the bytes of a file, and where.
use Rattle.std.specs.Prelude.{◌≡◌, ℕ, ◌<◌, ◌≤◌, List, [], ◌∷◌, length, Some, Result, Ok, Err}
use Rattle.std.specs.Global.{Vec}
use Rattle.std.specs.Str.{IsUtf8, IsValidUpTo}
use Rattle.ranked.specs.Entries.{Entry}
use Rattle.ranked.specs.declared.stop.Stop.{Stop}
use Rattle.ranked.specs.declared.stop.Stop.TheVariants.{Refused, Memory}
use Rattle.wr_base.specs.Codes.{rank_of}
use Rattle.wr_base.specs.declared.code.Code.{Code}
use Rattle.wr_base.specs.declared.code.Code.TheVariants as codes
use Rattle.midl_lex.specs.declared.fault.Fault.{Fault}
use Rattle.midl_lex.specs.declared.fault.Fault.TheVariants.{NotUtf8, BadChar, OpenComment, OpenText, WideNumber, LongName}
use Rattle.midl_lex.specs.Lexemes.{Lexeme, IsLongest, NoLexeme, Stands}
use Rattle.midl_lex.specs.Pieces.{Piece}
use Rattle.midl_lex.specs.Tokens.{Cuts, excess, mark_len}

-- a lexeme begins at the offset, or would begin there: all before it is lexemes
abbrev pub Reached : List ℕ → ℕ → Type 0
Reached bytes offset = (before : List Lexeme) × Cuts bytes (mark_len bytes) before offset

-- the lexeme that stands at the offset is too much
abbrev pub Exceeds : List ℕ → ℕ → Fault → Type 0
Exceeds bytes offset fault = (l : Lexeme) × (l.offset ≡ offset) × IsLongest bytes l × (excess l.kind l.text ≡ Some fault)

-- the fault stands at the offset
abbrev pub IsFault : List ℕ → ℕ → Fault → Type 0
-- the longest prefix that is UTF-8 ends there, before the end
IsFault bytes offset NotUtf8 = IsValidUpTo bytes offset
-- a byte that begins no lexeme
IsFault bytes offset BadChar = Reached bytes offset × (offset < length bytes) × NoLexeme bytes offset × ¬ (Stands bytes offset (47 ∷ 42 ∷ [])) × ¬ (Stands bytes offset (34 ∷ []))
-- a /* without */
IsFault bytes offset OpenComment = Reached bytes offset × NoLexeme bytes offset × Stands bytes offset (47 ∷ 42 ∷ [])
-- a quotation mark whose text isn't closed, or holds a byte that may not stand there
IsFault bytes offset OpenText = Reached bytes offset × NoLexeme bytes offset × Stands bytes offset (34 ∷ [])
-- a number of 2^64 or more
IsFault bytes offset WideNumber = Reached bytes offset × Exceeds bytes offset WideNumber
-- a name above 255 bytes
IsFault bytes offset LongName = Reached bytes offset × Exceeds bytes offset LongName

-- no fault of the bytes stands before the offset
abbrev pub NoneBefore : List ℕ → ℕ → Type 0
NoneBefore bytes offset = (other : ℕ) (fault : Fault) → IsFault bytes other fault → offset ≤ other

-- the bytes are UTF-8, and of their faults this one has the least offset
abbrev pub Leads : List ℕ → ℕ → Fault → Type 0
Leads bytes offset fault = IsUtf8 bytes × IsFault bytes offset fault × NoneBefore bytes offset

-- the first fault: bytes that aren't UTF-8 before any other, else the fault at the least offset
abbrev pub FirstFault : List ℕ → ℕ → Fault → Type 0
FirstFault bytes offset NotUtf8 = IsFault bytes offset NotUtf8
FirstFault bytes offset BadChar = Leads bytes offset BadChar
FirstFault bytes offset OpenComment = Leads bytes offset OpenComment
FirstFault bytes offset OpenText = Leads bytes offset OpenText
FirstFault bytes offset WideNumber = Leads bytes offset WideNumber
FirstFault bytes offset LongName = Leads bytes offset LongName

abbrev pub code_of : Fault → Code
code_of NotUtf8 = codes.NotUtf8
code_of BadChar = codes.BadChar
code_of OpenComment = codes.OpenComment
code_of OpenText = codes.OpenText
code_of WideNumber = codes.WideNumber
code_of LongName = codes.LongName

-- the fault as a refusal: its place and code, and no word
abbrev pub entry : ℕ → ℕ → Fault → Entry
entry file offset fault = record { file = file; offset = offset; code = rank_of (code_of fault); word = [] }

-- the refusal is the first fault
abbrev pub RefusedFirst : ℕ → List ℕ → Stop Entry → Type 0
RefusedFirst file bytes Memory = Unit {0}
RefusedFirst file bytes (Refused e) = (offset : ℕ) × (fault : Fault) × (e ≡ entry file offset fault) × FirstFault bytes offset fault

-- the result has these tokens, unless memory ran out
abbrev pub Reads : List Piece → Result (Vec Piece) (Stop Entry) → Type 0
Reads pieces (Ok v) = v.items ≡ pieces
Reads pieces (Err Memory) = Unit {0}
Reads pieces (Err (Refused e)) = ⊥

-- the result is this refusal, unless memory ran out
abbrev pub Refuses : Entry → Result (Vec Piece) (Stop Entry) → Type 0
Refuses entry (Ok v) = ⊥
Refuses entry (Err Memory) = Unit {0}
Refuses entry (Err (Refused e)) = e ≡ entry

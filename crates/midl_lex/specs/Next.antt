-- The lexeme at the front, or what is wrong there: what the private functions compute.
use Rattle.std.specs.Prelude.{ℕ, Bool, false, ◌&&◌, ◌==◌, if◌then◌else◌, List, [], ◌∷◌, take, Option, Some, None, Result, Ok, Err}
use Rattle.midl_lex.specs.declared.fault.Fault.{Fault}
use Rattle.midl_lex.specs.declared.fault.Fault.TheVariants.{BadChar, OpenComment, OpenText}
use Rattle.midl_lex.specs.declared.token.LexemeKind.{LexemeKind}
use Rattle.midl_lex.specs.Scan.{scan}
use Rattle.midl_lex.specs.Tokens.{excess}

abbrev pub is_star : List ℕ → Bool
is_star [] = false
is_star (b ∷ bs) = b == 42

-- what is wrong where no lexeme stands: a text or a comment is open, or the byte begins nothing
abbrev pub fault_of : List ℕ → Fault
fault_of [] = BadChar
fault_of (b ∷ bs) = if b == 34 then OpenText else if (b == 47) && is_star bs then OpenComment else BadChar

abbrev pub unless_excess : LexemeKind → ℕ → Option Fault → Result (LexemeKind × ℕ) Fault
unless_excess kind len None = Ok (kind, len)
unless_excess kind len (Some fault) = Err fault

abbrev pub checked : List ℕ → Option (LexemeKind × ℕ) → Result (LexemeKind × ℕ) Fault
checked rest None = Err (fault_of rest)
checked rest (Some l) = unless_excess l.0 l.1 (excess l.0 (take l.1 rest))

unfoldable pub next : List ℕ → Result (LexemeKind × ℕ) Fault
next rest = checked rest (scan rest)

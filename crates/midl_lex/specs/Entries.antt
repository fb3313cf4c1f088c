-- The lexical faults of a file as entries in the order of refusals.
use Rattle.std.specs.Prelude.{◌≡◌, ℕ, List}
use Rattle.ranked.specs.Entries.{Entry}
use Rattle.ranked.specs.First.{Then}
use Rattle.midl_lex.specs.declared.fault.Fault.{Fault}
use Rattle.midl_lex.specs.declared.fault.Fault.TheVariants.{NotUtf8}
use Rattle.midl_lex.specs.Faults.{IsFault, entry}

-- where the bytes aren't UTF-8
unfoldable pub NotText : ℕ → List ℕ → Entry → Type 0
NotText file bytes e = (offset : ℕ) × IsFault bytes offset NotUtf8 × (e ≡ entry file offset NotUtf8)

-- where the bytes can't be cut into tokens
unfoldable pub NotCut : ℕ → List ℕ → Entry → Type 0
NotCut file bytes e = (offset : ℕ) × (fault : Fault) × ¬ (fault ≡ NotUtf8) × IsFault bytes offset fault × (e ≡ entry file offset fault)

-- the lexical phase of a file: bytes that aren't UTF-8 come before any other fault
abbrev pub Lexical : ℕ → List ℕ → Entry → Type 0
Lexical file bytes = Then (NotText file bytes) (NotCut file bytes)

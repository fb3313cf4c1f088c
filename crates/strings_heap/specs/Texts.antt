-- Where a text of `#Strings` begins (ECMA-335 II.24.2.3), and marks of it.
use Rattle.std.specs.Prelude.{◌≡◌, ℕ, ◌+◌, ◌<◌, Bool, true, false, List, drop, Option, Some, None}
use Rattle.std.specs.Int.{bit_at}
use Rattle.std.specs.Str.{is_utf8}
use Rattle.md_heaps.specs.Reading.{until_zero}

-- a text ends, and is UTF-8
abbrev pub is_ended_text : Option (List ℕ) → Bool
is_ended_text None = false
is_ended_text (Some text) = is_utf8 text

-- the bytes before the first zero are a text, and there is such a zero
abbrev pub begins_text : List ℕ → Bool
begins_text bytes = is_ended_text (until_zero bytes)

-- a mark, as a bit
abbrev pub mark : Bool → ℕ
mark true = 1
mark false = 0

-- the bits say of the 64 places from the place on whether a text begins there
abbrev pub AreMarks : List ℕ → ℕ → ℕ → Type 0
AreMarks bytes at marks = (k : ℕ) → k < 64 → bit_at marks k ≡ mark (begins_text (drop (at + k) bytes))

-- Classes of bytes, and runs of them.
use Rattle.std.specs.Prelude.{ℕ, suc, Bool, true, false, ◌&&◌, ◌||◌, ◌==◌, nat_le, if◌then◌else◌, List, [], ◌∷◌}
use Rattle.midl_lex.specs.declared.bytes.Run.{Run}
use Rattle.midl_lex.specs.declared.bytes.Run.TheVariants as runs

abbrev pub within : ℕ → ℕ → ℕ → Bool
within low high b = nat_le low b && nat_le b high

-- space, tab, carriage return, line feed
abbrev pub is_white : ℕ → Bool
is_white b = (b == 32) || ((b == 9) || ((b == 13) || (b == 10)))

-- an ASCII letter or _
abbrev pub is_letter : ℕ → Bool
is_letter b = within 97 122 b || (within 65 90 b || (b == 95))

abbrev pub is_digit : ℕ → Bool
is_digit b = within 48 57 b

abbrev pub is_word : ℕ → Bool
is_word b = is_letter b || is_digit b

abbrev pub is_hex : ℕ → Bool
is_hex b = is_digit b || (within 97 102 b || within 65 70 b)

-- x or X
abbrev pub is_x : ℕ → Bool
is_x b = (b == 120) || (b == 88)

-- what may stand in a text: 0x20 to 0x7E other than the quotation mark
abbrev pub is_plain : ℕ → Bool
is_plain b = within 32 126 b && (if b == 34 then false else true)

abbrev pub not_line_feed : ℕ → Bool
not_line_feed b = if b == 10 then false else true

-- each of the bytes passes
abbrev pub all_pass : (ℕ → Bool) → List ℕ → Bool
all_pass p [] = true
all_pass p (b ∷ bs) = if p b then all_pass p bs else false

-- how many bytes from the front on pass
abbrev pub run : (ℕ → Bool) → List ℕ → ℕ
run p [] = 0
run p (b ∷ bs) = if p b then suc (run p bs) else 0

abbrev pub passes : Run → ℕ → Bool
passes runs.Word b = is_word b
passes runs.Decimal b = is_digit b
passes runs.Hexadecimal b = is_hex b
passes runs.Plain b = is_plain b
passes runs.Line b = not_line_feed b

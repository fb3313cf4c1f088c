-- Guids: 8, 4, 4, 4 and 12 hexadecimal digits joined by dashes, 36 bytes (RFC 9562, 4).
use Rattle.std.specs.Prelude.{ℕ, zero, suc, ◌+◌, Bool, true, false, ◌||◌, ◌==◌, if◌then◌else◌, List, [], ◌∷◌}
use Rattle.midl_lex.specs.Bytes.{is_hex}

-- what a guid has at a place: four dashes, and hexadecimal digits
abbrev pub guid_test : ℕ → ℕ → Bool
guid_test i b = if (i == 8) || ((i == 13) || ((i == 18) || (i == 23))) then b == 45 else is_hex b

-- the next n bytes are those of a guid, the first of them at place i
abbrev pub guid_from : ℕ → ℕ → List ℕ → Bool
guid_from zero i bs = true
guid_from (suc n) i [] = false
guid_from (suc n) i (b ∷ bs) = if guid_test i b then guid_from n (i + 1) bs else false

-- Identifiers, and paths of them.
use Rattle.std.specs.Prelude.{ℕ, Bool, false, ◌&&◌, ◌||◌, List, [], ◌∷◌, nat_le, ◌==◌, length}
use Rattle.std.specs.List.{slice_split, list_all}

-- an ASCII letter or `_`
abbrev pub is_start : ℕ → Bool
is_start b = (nat_le 65 b && nat_le b 90) || (nat_le 97 b && nat_le b 122) || b == 95

-- an ASCII letter, a digit or `_`
abbrev pub is_rest : ℕ → Bool
is_rest b = is_start b || (nat_le 48 b && nat_le b 57)

-- a letter or `_`, and then letters, digits and `_`
abbrev pub is_identifier : List ℕ → Bool
is_identifier [] = false
is_identifier (b ∷ bs) = is_start b && list_all is_rest bs

-- the parts between dots
abbrev pub parts_of : List ℕ → List (List ℕ)
parts_of bytes = slice_split (λ b. b == 46) bytes

-- two or more identifiers joined by dots
abbrev pub is_path : List ℕ → Bool
is_path bytes = nat_le 2 (length (parts_of bytes)) && list_all is_identifier (parts_of bytes)

-- ---- how long names may be

-- at most 255 bytes
abbrev pub is_short_part : List ℕ → Bool
is_short_part part = nat_le (length part) 255

-- at most 511 bytes, and at most 255 in each part
abbrev pub is_short_name : List ℕ → Bool
is_short_name full = nat_le (length full) 511 && list_all is_short_part (parts_of full)

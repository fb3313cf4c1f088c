-- Numbers as bytes, low byte first, as every number in an image is written (ECMA-335 II.24, II.25).
use Rattle.std.specs.Prelude.{ℕ, zero, suc, ◌+◌, ◌*◌, ◌/◌, ◌%◌, List, [], ◌∷◌, take, drop}

-- a number in so many bytes
abbrev pub le : ℕ → ℕ → List ℕ
le zero n = []
le (suc width) n = (n % 256) ∷ le width (n / 256)

-- the number that bytes are
abbrev pub number : List ℕ → ℕ
number [] = 0
number (b ∷ bytes) = b + 256 * number bytes

-- the bytes from an offset on, so many
abbrev pub part_at : List ℕ → ℕ → ℕ → List ℕ
part_at bytes offset size = take size (drop offset bytes)

-- the number of so many bytes at an offset: the field of a header, or the cell of a table
abbrev pub number_at : List ℕ → ℕ → ℕ → ℕ
number_at bytes offset width = number (part_at bytes offset width)

-- the sum of a list, as of the widths of columns
abbrev pub total : List ℕ → ℕ
total [] = 0
total (n ∷ ns) = n + total ns

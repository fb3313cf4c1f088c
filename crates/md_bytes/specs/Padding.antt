-- Numbers of one width behind each other, and zeros that fill bytes up to a multiple.
use Rattle.std.specs.Prelude.{ℕ, zero, suc, ◌+◌, ◌-◌, ◌*◌, ◌/◌, List, [], ◌∷◌, ◌++◌, length}
use Rattle.md_bytes.specs.Bytes.{le}

-- so many zeros
unfoldable pub zeros : ℕ → List ℕ
zeros zero = []
zeros (suc n) = 0 ∷ zeros n

-- a number rounded up to a multiple
abbrev pub up : ℕ → ℕ → ℕ
up n to = (n + (to - 1)) / to * to

-- numbers of one width
abbrev pub words : ℕ → List ℕ → List ℕ
words width [] = []
words width (n ∷ ns) = le width n ++ words width ns

-- bytes with zeros behind them, up to a multiple of four
abbrev pub padded : List ℕ → List ℕ
padded bytes = bytes ++ zeros (up (length bytes) 4 - length bytes)

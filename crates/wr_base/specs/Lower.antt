-- Texts in lower case.
use Rattle.std.specs.Prelude.{ℕ, List, map}
use Rattle.std.specs.Char.{to_ascii_lowercase}

-- each ASCII letter in lower case, all else as it is
abbrev pub lower : List ℕ → List ℕ
lower = map to_ascii_lowercase

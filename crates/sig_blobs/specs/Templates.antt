-- The names of templates in metadata: with a back quote and the number of arguments behind the name.
use Rattle.std.specs.Prelude.{ℕ, false, List, [], ◌∷◌, ◌++◌}
use Rattle.std.specs.Fmt.{digits_onto}

-- a number in decimal digits
unfoldable pub decimal_of : ℕ → List ℕ
decimal_of n = digits_onto 64 10 false n []

-- a back quote and a number of arguments
abbrev pub suffix : ℕ → List ℕ
suffix count = 96 ∷ decimal_of count

abbrev pub template : List ℕ → ℕ → List ℕ
template name count = name ++ suffix count

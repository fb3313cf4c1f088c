-- The numbers of declared names.
use Rattle.std.specs.Prelude.{◌≡◌, ℕ, List, take}
use Rattle.wr_base.specs.declared.declaration.Declaration.{Declaration}
use Rattle.numbered.specs.Numbers.{number_in, IsNumbering}
use Rattle.numbered.specs.declared.numbers.Numbers.{Numbers}
use Rattle.struct_cycles.specs.Places.{place_in}

-- the names of the first so many declarations are numbered by their places, and nothing else is
pub record NamedTo (types : List Declaration) (i : ℕ) (numbers : Numbers) : Type 0 where
  pub numbering : IsNumbering (number_in numbers) numbers.count
  pub count : numbers.count ≡ i
  pub names : (text : List ℕ) → number_in numbers text ≡ place_in (take i types) text

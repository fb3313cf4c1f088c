-- The numbers of what declarations list.
use Rattle.std.specs.Prelude.{◌≡◌, ◌<◌, ℕ, List, Option, Some, map, length, slice_get}
use Rattle.chains.specs.Graphs.{steps_of}
use Rattle.wr_base.specs.Uses.{text_of}
use Rattle.wr_base.specs.declared.declaration.Declaration.{Declaration}
use Rattle.wr_rules.specs.ListRules.{listed_in}
use Rattle.numbered.specs.Numbers.{number_in, IsNumbering, NumbersBy, PutBy}
use Rattle.numbered.specs.declared.numbers.Numbers.{Numbers}
use Rattle.struct_cycles.specs.Places.{place_in}

-- texts' numbers were put behind a list
abbrev pub PutTexts : Numbers → Numbers → List (List ℕ) → List ℕ → List ℕ → Type 0
PutTexts a b texts old new = PutBy (λ t. t) (IsNumbering (number_in b) b.count) (number_in a) (number_in b) texts old new

-- the texts of what a declaration lists
abbrev pub texts_in : Declaration → List (List ℕ)
texts_in d = map text_of (listed_in d)

-- the sets are the numbers of what the first so many declarations list
pub record AreSets (T : List ℕ → Option ℕ) (types : List Declaration) (i : ℕ) (sets : List (List ℕ)) : Type 0 where
  pub size : length sets ≡ i
  pub sets_ : (k : ℕ) (d : Declaration) → k < i → slice_get types k ≡ Some d → NumbersBy (λ t. t) T (texts_in d) (steps_of sets k)

-- so many texts are numbered, declared names by their places, and the sets are the numbers of what each declaration lists
pub record SetsNumbered (types : List Declaration) (count : ℕ) (sets : List (List ℕ)) : Type 0 where
  pub T : List ℕ → Option ℕ
  pub numbering : IsNumbering T count
  pub names : (text : List ℕ) (k : ℕ) → place_in types text ≡ Some k → T text ≡ Some k
  pub sets_ : AreSets T types (length types) sets

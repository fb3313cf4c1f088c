-- Texts and their numbers.
use Rattle.std.specs.Prelude.{◌≡◌, ◌<◌, ℕ, List, ◌++◌, Option, Some, map}
use Rattle.std.specs.HashMap.{get_by_text}
use Rattle.numbered.specs.declared.numbers.Numbers.{Numbers}

-- the number of a text, where it has one
abbrev pub number_in : Numbers → List ℕ → Option ℕ
number_in numbers text = get_by_text numbers.map text

-- each number is below the count and one text's
pub record IsNumbering (f : List ℕ → Option ℕ) (count : ℕ) : Type 0 where
  pub within : (t : List ℕ) (k : ℕ) → f t ≡ Some k → k < count
  pub apart : (s t : List ℕ) (k : ℕ) → f s ≡ Some k → f t ≡ Some k → s ≡ t

-- what was numbered stays so
abbrev pub Kept : (List ℕ → Option ℕ) → (List ℕ → Option ℕ) → Type 0
Kept f g = (t : List ℕ) (k : ℕ) → f t ≡ Some k → g t ≡ Some k

-- the numbers of texts by a key
abbrev pub NumbersBy : (List ℕ → List ℕ) → (List ℕ → Option ℕ) → List (List ℕ) → List ℕ → Type 0
NumbersBy key f texts list = map (λ t. f (key t)) texts ≡ map Some list

-- texts' numbers were put behind a list, after the new ones were numbered; then W holds
pub record PutBy (key : List ℕ → List ℕ) (W : Type 0) (f : List ℕ → Option ℕ) (g : List ℕ → Option ℕ) (texts : List (List ℕ)) (old : List ℕ) (new : List ℕ) : Type 0 where
  pub whole : W
  pub kept : Kept f g
  pub extra : List ℕ
  pub behind : new ≡ old ++ extra
  pub numbers : NumbersBy key g texts extra

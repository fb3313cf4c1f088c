-- What numbered texts own.
use Rattle.std.specs.Prelude.{◌≡◌, ◌⊎◌, ℕ, List, [], ◌∷◌, Option, Some, length}
use Rattle.chains.specs.Graphs.{In, steps_of}
use Rattle.numbered.specs.Numbers.{IsNumbering, NumbersBy}

-- each text that is numbered by T owns the numbers by N of what is its own
pub record Known (own : List ℕ → List (List ℕ)) (key : List ℕ → List ℕ) (T : List ℕ → Option ℕ) (texts : ℕ) (N : List ℕ → Option ℕ) (names : ℕ) (owned : List (List ℕ)) : Type 0 where
  pub of_texts : IsNumbering T texts
  pub of_names : IsNumbering N names
  pub size : texts ≡ length owned
  pub owns : (t : List ℕ) (k : ℕ) → T t ≡ Some k → NumbersBy key N (own t) (steps_of owned k)
  pub named : (a x : ℕ) → In x (steps_of owned a) → (t : List ℕ) × (N t ≡ Some x)

-- one of a list of texts
abbrev pub OneOf : List (List ℕ) → List ℕ → Type 0
OneOf [] text = ⊥
OneOf (t ∷ ts) text = (t ≡ text) ⊎ OneOf ts text

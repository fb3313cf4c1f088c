-- Steps between numbers, and chains of them.
use Rattle.std.specs.Prelude.{◌≡◌, ◌<◌, ◌⊎◌, ℕ, List, [], ◌∷◌, slice_index_or}

-- one of a list
abbrev pub In : ℕ → List ℕ → Type 0
In x [] = ⊥
In x (y ∷ ys) = (y ≡ x) ⊎ In x ys

-- the numbers that a number leads to in one step; past the end there are none
abbrev pub steps_of : List (List ℕ) → ℕ → List ℕ
steps_of graph a = slice_index_or graph a []

-- one number leads to the other in one step
abbrev pub Step : List (List ℕ) → ℕ → ℕ → Type 0
Step graph a b = In b (steps_of graph a)

-- one step or more
pub data Chain (graph : List (List ℕ)) (a : ℕ) : ℕ → Type 0 where
  one : {b : ℕ} → Step graph a b → Chain graph a b
  further : {b : ℕ} {c : ℕ} → Chain graph a b → Step graph b c → Chain graph a c

-- no step or more
abbrev pub Reach : List (List ℕ) → ℕ → ℕ → Type 0
Reach graph a b = (a ≡ b) ⊎ Chain graph a b

-- each step leads to a number of the graph
abbrev pub IsClosed : List (List ℕ) → ℕ → Type 0
IsClosed graph n = (a b : ℕ) → Step graph a b → b < n

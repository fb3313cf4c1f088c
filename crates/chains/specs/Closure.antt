-- What a list of numbers leads to.
use Rattle.std.specs.Prelude.{◌≡◌, ◌↔◌, ℕ, Bool, false, cond, IsTrue, List, ◌++◌, length, sum_by, slice_index_or}
use Rattle.chains.specs.Graphs.{In, Step}

-- the least set that has the list, and with each number its steps
pub data Reached (graph : List (List ℕ)) (from : List ℕ) : ℕ → Type 0 where
  start : {x : ℕ} → In x from → Reached graph from x
  onward : {a : ℕ} {b : ℕ} → Reached graph from a → Step graph a b → Reached graph from b

-- 1 where it is so
abbrev pub truth : Bool → ℕ
truth b = cond b 1 0

-- the flags say what was found, each once
pub record Told (flags : List Bool) (found : List ℕ) : Type 0 where
  pub told : (x : ℕ) → IsTrue (slice_index_or flags x false) ↔ In x found
  pub count : length found ≡ sum_by truth flags

-- more was found, of the list alone and all of it
pub record Met (list : List ℕ) (old : List ℕ) (new : List ℕ) : Type 0 where
  pub extra : List ℕ
  pub behind : new ≡ old ++ extra
  pub only : (x : ℕ) → In x extra → In x list
  pub all_ : (x : ℕ) → In x list → In x new

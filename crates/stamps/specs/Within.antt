-- What a set leads to.
use Rattle.std.specs.Prelude.{◌≡◌, ◌<◌, ◌≤◌, ◌+◌, ◌⊎◌, ℕ, Bool, false, IsTrue, List, slice_index_or}
use Rattle.chains.specs.Graphs.{In, Step, steps_of}
use Rattle.stamps.specs.Shared.{stamp_in}

-- one of the list has a lower stamp
pub record Lower (stamps : List ℕ) (mine : ℕ) (list : List ℕ) : Type 0 where
  pub x : ℕ
  pub of_list : In x list
  pub below : stamp_in stamps x < mine

-- one of a set leads to what isn't in it
pub record LeadsOut (graph : List (List ℕ)) (set : List ℕ) : Type 0 where
  pub a : ℕ
  pub b : ℕ
  pub from : In a set
  pub step : Step graph a b
  pub lacks : In b set → ⊥

-- no list that is marked leads to what it lacks
abbrev pub AreClosed : List (List ℕ) → List Bool → Type 0
AreClosed graph closed = (a : ℕ) → IsTrue (slice_index_or closed a false) → LeadsOut graph (steps_of graph a) → ⊥

-- each stamp stays, or it is the next one, and the number had the stamp, as has all that it leads to
abbrev pub Raised : List (List ℕ) → ℕ → List ℕ → List ℕ → Type 0
Raised graph mine old new = (y : ℕ) → (stamp_in new y ≡ stamp_in old y) ⊎ ((mine ≤ stamp_in old y) × (stamp_in new y ≡ mine + 1) × ((z : ℕ) → In z (steps_of graph y) → mine ≤ stamp_in old z))

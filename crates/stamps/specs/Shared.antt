-- What stamps say of a set.
use Rattle.std.specs.Prelude.{◌≢◌, ◌<◌, ℕ, List, slice_index_or}
use Rattle.chains.specs.Graphs.{In, steps_of}

-- past the end there is none
abbrev pub stamp_in : List ℕ → ℕ → ℕ
stamp_in stamps x = slice_index_or stamps x 0

-- one of the list has another stamp above the floor
pub record Stamped (floor : ℕ) (mine : ℕ) (stamps : List ℕ) (things : List ℕ) : Type 0 where
  pub x : ℕ
  pub of_list : In x things
  pub above : floor < stamp_in stamps x
  pub other : stamp_in stamps x ≢ mine

-- two of a set own one thing
pub record Shared (owned : List (List ℕ)) (set : List ℕ) : Type 0 where
  pub a : ℕ
  pub b : ℕ
  pub first : In a set
  pub second : In b set
  pub apart : a ≢ b
  pub thing : ℕ
  pub of_first : In thing (steps_of owned a)
  pub of_second : In thing (steps_of owned b)

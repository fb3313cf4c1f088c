-- What stays where something is written behind it.
use Rattle.std.specs.Prelude.{◌≡◌, ℕ, List, ◌++◌}

-- the new bytes begin with all of the old ones
pub record KeepsFront (old new : List ℕ) : Type 0 where
  pub rest : List ℕ
  pub split : new ≡ old ++ rest

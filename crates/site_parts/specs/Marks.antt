-- A text that is put among those that were met.
use Rattle.std.specs.Prelude.{◌≡◌, true, not, ℕ, Bool, List, bytes_eq, if◌then◌else◌}

-- it is new where it wasn't met, and is met from now on, besides what was met before
pub record Marks (text : List ℕ) (is_new : Bool) (old : List ℕ → Bool) (new : List ℕ → Bool) : Type 0 where
  pub fresh : is_new ≡ not (old text)
  pub met : (other : List ℕ) → new other ≡ (if bytes_eq text other then true else old other)

-- Putting a line on err before a status is answered.
use Rattle.std.specs.Prelude.{◌≡◌, ◌⊎◌, ℕ, Option, List, take}
use Rattle.wr_outside.specs.Cause.{Rose}
use Rattle.wr_outside.specs.Files.{with_put}

-- all of the line, and the status; or a part, and 5 where the sink failed, or 6 for want of memory
abbrev pub Says : Option (List ℕ) → Option (List ℕ) → ℕ → ℕ → ℕ → List ℕ → ℕ → Type 0
Says before after count now status line answer =
    ((answer ≡ status) × (after ≡ with_put before line))
    ⊎ ((answer ≡ 5) × Rose count now × ((n : ℕ) × (after ≡ with_put before (take n line))))
    ⊎ ((answer ≡ 6) × ((n : ℕ) × (after ≡ with_put before (take n line))))

-- Declarations of which each has a full name of its own, and the set that they are.
use Rattle.std.specs.Prelude.{◌≡◌, ⊤, ℕ, false, List, [], ◌∷◌, Result, Ok}
use Rattle.winmd_rows.specs.Faults.{Fault, ◌>>=◌}
use Rattle.winmd_lines.specs.Cells.{Tables}
use Rattle.winmd_lines.specs.Orders.{set_by}
use Rattle.wr_base.specs.Trees.{DeclTree, name_of}
use Rattle.winmd_sets.specs.Types.{set_of}
use Rattle.winmd_set.specs.Stated.{is_again}

-- no later one has the name of one
abbrev pub AllOnce : List (ℕ × DeclTree) → Type 0
AllOnce [] = ⊤
AllOnce (d ∷ ds) = (is_again d ds ≡ false) × AllOnce ds

-- what rows state as a set, in the order of full names
abbrev pub set_in : Tables → List (ℕ × DeclTree) → Result (List DeclTree) Fault
set_in t ds = set_of t 0 0 ds >>= λ set. Ok (set_by name_of set)

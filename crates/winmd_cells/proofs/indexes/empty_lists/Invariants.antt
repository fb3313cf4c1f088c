use Rattle.std.proofs.Common.{◌≡◌, ℕ, [], length, get_or}
use Rattle.winmd_cells.specs.Indexed.{numbers_in}
use Rattle.winmd_cells.proofs.indexes.empty_lists.Given as goal

abbrev pub invariant-loop-made : goal.invariant-loop-made
invariant-loop-made l = (length l.lists.items ≡ l.made) × ((m : ℕ) → get_or (numbers_in l.lists.items) m [] ≡ [])

use Rattle.std.proofs.Common.{◌≡◌, ◌<◌, ℕ, get_or, length}
use Rattle.md_schema.specs.Tables.{count_at}
use Rattle.winmd_cells.proofs.sizes.sizes.Given as goal

abbrev pub invariant-loop-n : goal.invariant-loop-n
invariant-loop-n l = (length l.rows ≡ 45) × ((k : ℕ) → k < l.n → get_or l.rows k 0 ≡ count_at l.stream k)

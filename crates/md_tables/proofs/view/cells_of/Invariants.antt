use Rattle.std.proofs.Common.{◌≡◌, ◌<◌, ◌≤◌, ℕ, get_or, length}
use Rattle.md_tables.proofs.view.cells_of.Given as goal

abbrev pub invariant-loop-column : goal.invariant-loop-column
invariant-loop-column g l =
    (length l.cells ≡ g.row.N) × ((k : ℕ) → k < l.column → get_or l.cells k 0 ≡ get_or l.row k 0) × ((k : ℕ) → l.column ≤ k → get_or l.cells k 0 ≡ 0)

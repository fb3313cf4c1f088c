use Rattle.std.proofs.Common.{◌≤◌, ℕ, map, take, get_or}
use Rattle.md_schema.specs.Widths.{count_of}
use Rattle.winmd_cells.proofs.starts.longest.Given as goal

abbrev pub invariant-loop-table : goal.invariant-loop-table
invariant-loop-table l = (k : ℕ) → get_or (map (count_of l.sizes) (take l.table-index l.order)) k 0 ≤ l.most

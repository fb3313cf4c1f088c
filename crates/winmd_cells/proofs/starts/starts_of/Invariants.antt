use Rattle.std.proofs.Common.{◌≡◌, ◌≤◌, ◌+◌, ◌^◌, ℕ, map, take, get_or}
use Rattle.md_schema.specs.Tables.{table_start}
use Rattle.winmd_cells.proofs.starts.starts_of.Given as goal

abbrev pub invariant-loop-table : goal.invariant-loop-table
invariant-loop-table l = (l.starts.items ≡ map (λ table. l.from + table_start l.sizes table) (take l.table-index l.order)) × ((k : ℕ) → get_or l.starts.items k 0 ≤ 2 ^ 45)

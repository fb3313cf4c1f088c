use Rattle.std.proofs.Common.{◌≡◌, ◌≤◌, ◌+◌, ◌*◌, ◌^◌, map, drop}
use Rattle.md_bytes.specs.Bytes.{total}
use Rattle.md_schema.specs.Tables.{table_size}
use Rattle.winmd_cells.proofs.starts.size_of_tables.Given as goal

abbrev pub invariant-loop-table : goal.invariant-loop-table
invariant-loop-table l = (l.sum + total (map (table_size l.sizes) (drop l.table-index l.order)) ≡ total (map (table_size l.sizes) l.order)) × (l.sum ≤ l.table-index * 2 ^ 38)

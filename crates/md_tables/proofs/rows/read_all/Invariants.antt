use Rattle.std.proofs.Common.{◌≡◌, ◌++◌, ◌+◌, map, drop}
use Rattle.md_bytes.specs.Bytes.{total}
use Rattle.md_schema.specs.Tables.{table_size}
use Rattle.md_tables.specs.Lists.{lists_in}
use Rattle.md_tables.specs.Reading.{tables_at}
use Rattle.md_tables.proofs.rows.read_all.Given as goal

abbrev pub invariant-loop-table : goal.invariant-loop-table
invariant-loop-table l = (lists_in l.tables.items ++ tables_at l.bytes l.sizes l.at (drop l.table-index l.order) ≡ tables_at l.bytes l.sizes l.start l.order) × (l.at + total (map (table_size l.sizes) (drop l.table-index l.order)) ≡ l.start + total (map (table_size l.sizes) l.order))

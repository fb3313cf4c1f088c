use Rattle.std.proofs.Common.{◌≡◌, ◌++◌, ◌+◌, ◌-◌, ◌*◌}
use Rattle.md_bytes.specs.Bytes.{total}
use Rattle.md_tables.specs.Lists.{cells_in}
use Rattle.md_tables.specs.Reading.{rows_at}
use Rattle.md_tables.proofs.rows.read_rows.Given as goal

abbrev pub invariant-loop : goal.invariant-loop
invariant-loop l = (cells_in l.rows.items ++ rows_at l.bytes l.at l.widths (l.count - l.counter) ≡ rows_at l.bytes l.start l.widths l.count) × (l.at + (l.count - l.counter) * total l.widths ≡ l.start + l.count * total l.widths)

use Rattle.std.proofs.Common.{◌≡◌, ◌++◌, ◌+◌, drop, length}
use Rattle.md_bytes.specs.Bytes.{total}
use Rattle.md_tables.specs.Reading.{numbers_at}
use Rattle.md_tables.proofs.rows.read_row.Given as goal

abbrev pub invariant-loop-width : goal.invariant-loop-width
invariant-loop-width l =
    (l.value.items ++ numbers_at l.bytes l.end (drop l.width-index l.widths) ≡ numbers_at l.bytes l.start l.widths)
    × (l.end + total (drop l.width-index l.widths) ≡ l.start + total l.widths)
    × (length l.value.items ≡ l.width-index)

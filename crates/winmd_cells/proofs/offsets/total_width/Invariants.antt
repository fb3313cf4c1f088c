use Rattle.std.proofs.Common.{◌≡◌, ◌≤◌, ◌+◌, ◌*◌, map, drop}
use Rattle.md_bytes.specs.Bytes.{total}
use Rattle.md_schema.specs.Widths.{width_of}
use Rattle.winmd_cells.proofs.offsets.total_width.Given as goal

abbrev pub invariant-loop-column : goal.invariant-loop-column
invariant-loop-column l = (l.sum + total (map (width_of l.sizes) (drop l.column-index l.columns)) ≡ total (map (width_of l.sizes) l.columns)) × (l.sum ≤ 4 * l.column-index)

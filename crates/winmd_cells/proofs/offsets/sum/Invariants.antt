use Rattle.std.proofs.Common.{◌≡◌, ◌≤◌, ◌+◌, ◌*◌, drop}
use Rattle.md_bytes.specs.Bytes.{total}
use Rattle.winmd_cells.proofs.offsets.sum.Given as goal

abbrev pub invariant-loop-width : goal.invariant-loop-width
invariant-loop-width l = (l.sum + total (drop l.width-index l.widths) ≡ total l.widths) × (l.sum ≤ 4 * l.width-index)

use Rattle.std.proofs.Common.{◌≡◌, ◌≤◌, ◌+◌, map, drop, length}
use Rattle.wr_base.specs.Trees.{UseTree, tree_of}
use Rattle.winmd_uses.specs.Keys.{key_of}
use Rattle.winmd_names.specs.InstanceRows.{row_among, row_under}
use Rattle.winmd_names.proofs.instance_rows.rows_of.Given as goal

abbrev pub invariant-loop-left : goal.invariant-loop-left
invariant-loop-left l = (l.left ≤ length l.uses) × ((u : UseTree) → row_under l.rows (key_of u) ≡ row_among (l.left + 1) (map tree_of (drop l.left l.uses)) u)

abbrev pub decreases-loop-left : goal.decreases-loop-left
decreases-loop-left l = l.left

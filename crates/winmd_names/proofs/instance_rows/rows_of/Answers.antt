use Rattle.std.proofs.Common.{◌≡◌, ◌<◌, ◌+◌, ◌-◌, ℕ, arith}
use Rattle.winmd_uses.specs.Keys.{key_of}
use Rattle.winmd_names.specs.InstanceRows.{row_under}
use Rattle.winmd_names.proofs.DownLaws.{rows_down}
use Rattle.winmd_names.proofs.instance_rows.rows_of.Goals as goal

pub loop-left-preserved : goal.loop-left-preserved
loop-left-preserved c =
    let left : ℕ = c.loop-left.left in
    let some : 0 < left = omega (arith, c.loop-left-test.true) in
    let row : left - 1 + 1 ≡ left = omega (arith, some) in (
      omega (arith, c.loop-left.invariant.0),
      λ u. rows_down c.args.uses.now left (left - 1 + 1) c.index-uses-left.result u (row_under c.put_row.new.rows (key_of u)) (row_under c.loop-left.rows (key_of u)) some c.loop-left.invariant.0 row
          c.index-uses-left.is (c.loop-left.invariant.1 u) (c.in_ok-put_row.ensures u),
    )

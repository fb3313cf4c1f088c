use Rattle.std.proofs.Common.{◌≡◌, ◌<◌, ◌+◌, ◌-◌, ℕ, arith}
use Rattle.sig_blobs.specs.Numbers.{number_in}
use Rattle.winmd_names.proofs.DownLaws.{types_down}
use Rattle.winmd_names.proofs.numbers.add_types.Goals as goal

pub loop-left-preserved : goal.loop-left-preserved
loop-left-preserved c =
    let left : ℕ = c.loop-left.left in
    let some : 0 < left = omega (arith, c.loop-left-test.true) in
    let row : left - 1 + 2 ≡ left + 1 = omega (arith, some) in (
      omega (arith, c.loop-left.invariant.0),
      λ full. types_down c.args.types.now left (left - 1 + 2) c.index-types-left.result full (number_in c.add_declared.new.tokens full) (number_in c.loop-left.tokens full) (number_in c.args.tokens.now full) some c.loop-left.invariant.0 row
          c.index-types-left.is (c.loop-left.invariant.1 full) (c.in_ok-add_declared.ensures full),
    )

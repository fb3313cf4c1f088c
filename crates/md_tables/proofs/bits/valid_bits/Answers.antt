use Rattle.std.proofs.Common.{arith}
use Rattle.md_tables.proofs.BitLemmas.{valid_low}
use Rattle.md_tables.proofs.bits.valid_bits.Goals as goal
use Rattle.md_tables.proofs.bits.valid_bits.Goals.{then-rows-n-gt0, else-rows-n-gt0}

pub overflow_mul-value : goal.overflow_mul-value
overflow_mul-value c =
    let low = valid_low c.args.rows.now c.loop-n.n c.loop-n.value c.requires c.loop-n.invariant.0 in
    omega arith

pub overflow_add-value : goal.overflow_add-value
overflow_add-value c =
    let low = valid_low c.args.rows.now c.loop-n.n c.loop-n.value c.requires c.loop-n.invariant.0 in
    elim c.if-rows-n-gt0.branch [ then-rows-n-gt0 w ↦ omega (arith, low) | else-rows-n-gt0 w ↦ omega (arith, low) ]

use Rattle.std.proofs.Common.{◌≤◌, ◌+◌, sym, subst, arith}
use Rattle.source_set.proofs.LineLemmas.{Behind, column_fits, feed, no_feed, nothing_behind}
use Rattle.source_set.proofs.lines.position_behind.Goals as goal
use Rattle.source_set.proofs.lines.position_behind.Goals.{then-byte-eq10, else-byte-eq10}

pub loop-byte-init : goal.loop-byte-init
loop-byte-init c = nothing_behind c.args.bytes.now

pub overflow_add-column : goal.overflow_add-column
overflow_add-column c =
    let small : c.loop-byte.column ≤ c.loop-byte.byte-index + 1 = column_fits c.args.bytes.now c.loop-byte.byte-index c.loop-byte.line c.loop-byte.column c.loop-byte.auto.byte-index-end c.loop-byte.invariant in
    omega arith

pub loop-byte-preserved : goal.loop-byte-preserved
loop-byte-preserved c = elim c.if-byte-eq10.branch [
  | then-byte-eq10 w ↦
      subst (λ n. Behind c.args.bytes.now (c.loop-byte.byte-index + 1) n c.if-byte-eq10.column) (sym w.line-is)
      (subst (Behind c.args.bytes.now (c.loop-byte.byte-index + 1) (c.loop-byte.line + 1)) (sym w.column-is)
      (feed c.args.bytes.now c.loop-byte.byte-index c.loop-byte.line c.loop-byte.column c.loop-byte-test.true w.if-byte-eq10.true c.loop-byte.invariant))
  | else-byte-eq10 w ↦
      subst (λ n. Behind c.args.bytes.now (c.loop-byte.byte-index + 1) n c.if-byte-eq10.column) (sym w.line-is)
      (subst (Behind c.args.bytes.now (c.loop-byte.byte-index + 1) c.loop-byte.line) (sym w.column-is)
      (no_feed c.args.bytes.now c.loop-byte.byte-index c.loop-byte.line c.loop-byte.column c.loop-byte-test.true w.if-byte-eq10.false c.loop-byte.invariant))
]

use Rattle.std.proofs.Common.{◌≡◌, ◌≢◌, ◌∙◌, ℕ, ◌<◌, length, ap, arith, below_more, get_or-set_other, get_or-set_same, length-set}
use Rattle.md_schema.specs.Tables.{has_bit}
use Rattle.md_tables.proofs.WholeLemmas.{counts_all, made_is}
use Rattle.winmd_cells.proofs.sizes.sizes.Goals as goal

pub loop-n-preserved : goal.loop-n-preserved
loop-n-preserved c = (
  length-set c.loop-n.rows c.loop-n.n c.row_count.result ∙ c.loop-n.invariant.0,
  below_more _ _
      (λ k h. let ne : k ≢ c.loop-n.n = omega arith in rw get_or-set_other (c.loop-n.invariant.1 k h))
      (let many : length c.loop-n.rows ≡ 45 = c.loop-n.invariant.0 in
      let lt : c.loop-n.n < length c.loop-n.rows = omega (arith, many) in
      rw get_or-set_same c.row_count.ensures),
)

pub returns : goal.returns
returns c =
    made_is c.args.stream.now c.has_bit.result c.has_bit-2.result c.has_bit-3.result c.loop-n.rows
    (c.has_bit.ensures ∙ ap (λ (n : ℕ). has_bit n 0) c.number_at-heaps.ensures)
    (c.has_bit-2.ensures ∙ ap (λ (n : ℕ). has_bit n 1) c.number_at-heaps.ensures)
    (c.has_bit-3.ensures ∙ ap (λ (n : ℕ). has_bit n 2) c.number_at-heaps.ensures)
    (counts_all c.args.stream.now c.loop-n.rows c.loop-n.invariant.0 (λ k lt. c.loop-n.invariant.1 k (omega arith)))

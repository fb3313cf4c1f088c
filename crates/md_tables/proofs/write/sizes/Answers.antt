use Rattle.std.proofs.Common.{◌≡◌, ◌≢◌, ◌∙◌, ℕ, ◌<◌, List, None, length, map, ap, sym, arith, below_more, get_or-set_other, get_or-set_same, length-set}
use Rattle.std.proofs.lemmas.List.{ext_get_or, get_or-map}
use Rattle.md_schema.specs.declared.sizes.Sizes.{Sizes}
use Rattle.md_tables.specs.Numbers.{by_number, count_or}
use Rattle.md_tables.specs.Rows.{rows_in}
use Rattle.md_tables.proofs.write.sizes.Goals as goal

pub loop-n-preserved : goal.loop-n-preserved
loop-n-preserved c = (
  length-set c.loop-n.rows c.loop-n.n c.count.result ∙ c.loop-n.invariant.0,
  below_more _ _
      (λ k h. let ne : k ≢ c.loop-n.n = omega arith in rw get_or-set_other (c.loop-n.invariant.1 k h))
      (let many : length c.loop-n.rows ≡ 45 = c.loop-n.invariant.0 in
      let lt : c.loop-n.n < length c.loop-n.rows = omega (arith, many) in
      rw get_or-set_same (c.count.ensures ∙ ap (count_or (rows_in c.args.set.now)) c.table_at.ensures)),
)

pub returns : goal.returns
returns c =
    let made : List ℕ → Sizes = λ (rows : List ℕ). record { long_texts = c.args.set.now.long_texts; long_guids = c.args.set.now.long_guids; long_blobs = c.args.set.now.long_blobs; rows = rows } in
    let e : c.loop-n.rows ≡ map (count_or (rows_in c.args.set.now)) by_number =
    ext_get_or 0 c.loop-n.rows (map (count_or (rows_in c.args.set.now)) by_number) c.loop-n.invariant.0
    (λ i lt. let low : i < 45 = omega (arith, c.loop-n.invariant.0, lt) in
    let below : i < c.loop-n.n = omega (arith, low) in
    c.loop-n.invariant.1 i below ∙ sym (get_or-map (count_or (rows_in c.args.set.now)) by_number i None 0 low)) in
    ap made e

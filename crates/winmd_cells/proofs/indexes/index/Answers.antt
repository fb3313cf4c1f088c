use Rattle.std.proofs.Common.{◌≡◌, ◌<◌, ap, ◌∙◌, sym, map, arith, ◌++◌, ◌+◌, suc, length, [], nat_le, cond}
use Rattle.std.specs.List.{filter}
use Rattle.std.proofs.lemmas.List.{length-map}
use Rattle.md_schema.specs.Tables.{upto}
use Rattle.winmd_cells.specs.Indexed.{numbers_in}
use Rattle.winmd_cells.specs.Seen.{seen, tables_in}
use Rattle.winmd_cells.specs.Indexed.{leads_by, only, is_row}
use Rattle.winmd_cells.proofs.RowLaws.{none_yet, grows, leading_seen, listed, mapped_if}
use Rattle.winmd_cells.proofs.indexes.index.Goals as goal

pub loop-i-init : goal.loop-i-init
loop-i-init c =
    let e : c.count.result + 1 ≡ suc c.count.result = omega arith in (
      c.in_ok-lists.ensures.length ∙ e ∙ ap suc c.count.ensures,
      λ m h. c.in_ok-lists.ensures.empty m ∙ sym (none_yet (leads_by c.args.image.now c.args.keyed c.args.column c.args.owner m)),
    )

pub loop-i-preserved : goal.loop-i-preserved
loop-i-preserved c = (
  c.in_ok-put.ensures.same ∙ c.loop-i.invariant.0,
  λ m h. (let within : m < length c.loop-i.lists.items = rw (sym c.in_ok-put.ensures.same) h in
      c.in_ok-put.ensures.put m within ∙ ap (λ xs. xs ++ only (is_row m c.owner.result) (c.loop-i.i + 1)) (c.loop-i.invariant.1 m within)
      ∙ ap (λ b. filter (leads_by c.args.image.now c.args.keyed c.args.column c.args.owner m) (upto 1 c.loop-i.i) ++ only b (c.loop-i.i + 1)) (sym (c.owner.ensures m))
      ∙ sym (grows (leads_by c.args.image.now c.args.keyed c.args.column c.args.owner m) c.loop-i.i)),
)

pub returns : goal.returns
returns c = λ m.
    let done : c.loop-i.i ≡ c.count-i-end.result = omega (arith, c.loop-i-test.false, c.loop-i.auto.i-end) in
    let long : length (numbers_in c.loop-i.lists.items) ≡ length c.loop-i.lists.items = length-map c.loop-i.lists.items (λ row. row.items) in
    ap (map (seen c.args.image.now c.args.keyed)) (listed (λ k. filter (leads_by c.args.image.now c.args.keyed c.args.column c.args.owner k) (upto 1 c.loop-i.i)) (numbers_in c.loop-i.lists.items) (length ((tables_in c.args.image.now).rows c.args.owner)) m
    (long ∙ c.loop-i.invariant.0) (λ k h. c.loop-i.invariant.1 k (rw (sym long) h)))
    ∙ mapped_if (seen c.args.image.now c.args.keyed) (nat_le m (length ((tables_in c.args.image.now).rows c.args.owner))) (filter (leads_by c.args.image.now c.args.keyed c.args.column c.args.owner m) (upto 1 c.loop-i.i))
    ∙ ap (λ xs. cond (nat_le m (length ((tables_in c.args.image.now).rows c.args.owner))) xs []) (rw (done, c.count-i-end.ensures) (sym (leading_seen c.args.image.now c.args.keyed c.args.column c.args.owner m)))

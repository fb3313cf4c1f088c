use Rattle.std.proofs.Common.{◌≤◌, map, get_or, subst}
use Rattle.std.proofs.lemmas.List.{take_all}
use Rattle.md_schema.specs.Widths.{count_of}
use Rattle.winmd_cells.proofs.SizeLaws.{longer}
use Rattle.winmd_cells.proofs.starts.longest.Goals as goal

pub loop-table-preserved : goal.loop-table-preserved
loop-table-preserved c = longer (count_of c.args.sizes.now) c.args.order.now _ c.loop-table.table-index c.loop-table.most c.larger-most.result c.count.result c.loop-table-test.true c.larger-most.ensures.left c.count.ensures c.larger-most.ensures.right c.loop-table.invariant

pub returns : goal.returns
returns c = λ k. subst (λ xs. get_or (map (count_of c.args.sizes.now) xs) k 0 ≤ c.loop-table.most) (take_all c.loop-table.table-index c.args.order.now c.loop-table-test.false) (c.loop-table.invariant k)

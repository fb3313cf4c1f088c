use Rattle.std.proofs.Common.{◌≡◌, true, map, arith}
use Rattle.std.proofs.lemmas.List.{length-map}
use Rattle.std.proofs.lemmas.Result.{err_from_is_err_and}
use Rattle.winmd_cells.specs.Seen.{tables_in}
use Rattle.wr_base.specs.Trees.{decl_tree}
use Rattle.winmd_set.specs.Stated.{stated_seen}
use Rattle.winmd_set.proofs.StepLaws.{all_once, failed, few_types, held}
use Rattle.winmd_set.proofs.set.types_from.Goals as goal

pub returns-in_err-check_all : goal.returns-in_err-check_all
returns-in_err-check_all c =
    let p = err_from_is_err_and c.from_residual.result c.from_residual.ensures.1 in
    let e : c.as_slice.result.now ≡ c.args.list.items = c.as_slice.ensures.value in
    rw (p.1, p.2) (failed (tables_in c.args.image.now) (map stated_seen c.args.list.items) c.in_err-check_all.field-0.0 (rw e at c.in_err-check_all.ensures))

pub put_in_order-requires-clause-short : goal.put_in_order-requires-clause-short
put_in_order-requires-clause-short c =
    let e : c.as_slice.result.now ≡ c.args.list.items = c.as_slice.ensures.value in
    let f = few_types (tables_in c.args.image.now) 0 0 (map stated_seen c.args.list.items) true (omega arith) (rw e at c.in_ok-check_all.ensures) in
    let size = length-map c.args.list.items stated_seen in
    omega (arith, f, size)

pub put_in_order-requires-clause-once : goal.put_in_order-requires-clause-once
put_in_order-requires-clause-once c =
    let e : c.as_slice.result.now ≡ c.args.list.items = c.as_slice.ensures.value in
    all_once (tables_in c.args.image.now) 0 0 (map stated_seen c.args.list.items) true (rw e at c.in_ok-check_all.ensures)

pub returns : goal.returns
returns c =
    let e : c.as_slice.result.now ≡ c.args.list.items = c.as_slice.ensures.value in
    held (tables_in c.args.image.now) (map stated_seen c.args.list.items) true (map decl_tree c.in_ok-put_in_order.field-0) (rw e at c.in_ok-check_all.ensures) c.in_ok-put_in_order.ensures

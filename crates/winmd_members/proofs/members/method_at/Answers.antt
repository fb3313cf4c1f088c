use Rattle.std.proofs.lemmas.Result.{err_from_is_err_and}
use Rattle.md_schema.specs.declared.table.Table.TheVariants as tables
use Rattle.winmd_cells.specs.Seen.{seen, tables_in}
use Rattle.wr_base.specs.Trees.{signature_tree}
use Rattle.winmd_members.specs.Earlier.{count_at}
use Rattle.winmd_members.proofs.MethodLaws.{method_is, method_no_abi, method_no_sig}
use Rattle.winmd_members.proofs.members.method_at.Goals as goal

pub returns-in_err-abi : goal.returns-in_err-abi
returns-in_err-abi c =
    let p = err_from_is_err_and c.from_residual-in_err-abi.result c.from_residual-in_err-abi.ensures.1 in
    let image = c.args.source.now.image in
    rw (p.1, p.2) (method_no_abi (tables_in image) (seen image tables.MethodDef c.args.row) (count_at c.args.counts.now) c.in_ok-name.name c.as_str.result.now c.in_err-abi.field-0.0
    c.in_ok-name.ensures c.as_str.ensures c.in_err-abi.ensures)

pub returns-in_err-sig : goal.returns-in_err-sig
returns-in_err-sig c =
    let p = err_from_is_err_and c.from_residual-in_err-sig.result c.from_residual-in_err-sig.ensures.1 in
    let image = c.args.source.now.image in
    rw (p.1, p.2) (method_no_sig (tables_in image) (seen image tables.MethodDef c.args.row) (count_at c.args.counts.now) c.in_ok-name.name c.as_str.result.now c.in_ok-abi.abi c.in_err-sig.field-0.0
    c.in_ok-name.ensures c.as_str.ensures c.in_ok-abi.ensures c.in_err-sig.ensures)

pub returns : goal.returns
returns c =
    let image = c.args.source.now.image in
    method_is (tables_in image) (seen image tables.MethodDef c.args.row) (count_at c.args.counts.now) c.in_ok-name.name c.as_str.result.now c.in_ok-abi.abi (signature_tree c.in_ok-sig.sig)
    c.in_ok-name.ensures c.as_str.ensures c.in_ok-abi.ensures c.in_ok-sig.ensures

use Rattle.std.proofs.Common.{arith}
use Rattle.md_schema.proofs.CodesLemmas.{code_fits}
use Rattle.md_schema.proofs.coded.joined.Goals as goal

pub overflow_mul-result : goal.overflow_mul-result
overflow_mul-result c =
    let all = code_fits c.args.row c.args.tag c.args.bits c.requires.short c.requires.row c.requires.tag in
    rw c.tag_count.ensures (omega arith)

pub overflow_add-result : goal.overflow_add-result
overflow_add-result c =
    let all = code_fits c.args.row c.args.tag c.args.bits c.requires.short c.requires.row c.requires.tag in
    rw c.tag_count.ensures (omega arith)

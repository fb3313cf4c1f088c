use Rattle.std.proofs.Common.{◌≡◌, ℕ, suc, ◌+◌, ◌∙◌, List, ◌∷◌, map, drop, get_or, sym, ap, arith}
use Rattle.std.proofs.lemmas.List.{drop_more}
use Rattle.row_writer.specs.Known.{Values}
use Rattle.row_writer.specs.Seen.{seen}
use Rattle.winmd_sets.specs.Members.{param_lines}
use Rattle.wr_base.specs.declared.declaration.Param.{Param}
use Rattle.wr_base.specs.Trees.{param_tree}
use Rattle.part_rows.specs.Grown.{with_lines}
use Rattle.part_rows.specs.Nothing.{nothing}
use Rattle.part_rows.proofs.params.put_params.Goals as goal

pub loop-param-preserved : goal.loop-param-preserved
loop-param-preserved c =
    let all : List Param = c.args.params.now in
    let p : Param = c.param-item.result in
    let rest : List Param = drop (c.loop-param.param-index + 1) all in
    let is = c.param-item.is in
    let here : get_or all c.loop-param.param-index p ≡ p = cc in
    let split : drop c.loop-param.param-index all ≡ p ∷ rest = drop_more all c.loop-param.param-index p c.loop-param-test.true ∙ ap (λ (q : Param). q ∷ rest) here in
    let next : c.loop-param.number + 1 ≡ suc c.loop-param.number = omega arith in (
      ap (λ (n : ℕ). with_lines nothing (param_lines n (map param_tree rest)) (seen c.put_param.new.writer)) next
          ∙ ap (λ (rows : Values). with_lines nothing (param_lines (suc c.loop-param.number) (map param_tree rest)) rows) c.in_ok-put_param.ensures
          ∙ ap (λ (ps : List Param). with_lines nothing (param_lines c.loop-param.number (map param_tree ps)) (seen c.loop-param.writer)) (sym split)
          ∙ c.loop-param.invariant.0,
      omega (arith, c.loop-param.invariant.1),
    )

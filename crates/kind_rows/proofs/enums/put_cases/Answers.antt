use Rattle.std.proofs.Common.{◌≡◌, ◌∙◌, List, get_or, refl}
use Rattle.std.specs.List.{flat_map}
use Rattle.row_writer.specs.Seen.{seen}
use Rattle.winmd_sets.specs.Members.{case_lines}
use Rattle.wr_base.specs.declared.declaration.Case.{Case}
use Rattle.kind_rows.proofs.LoopLaws.{loop_step}
use Rattle.kind_rows.proofs.enums.put_cases.Goals as goal

pub loop-case-preserved : goal.loop-case-preserved
loop-case-preserved g c =
    let all : List Case = c.args.cases.now in
    let x : Case = c.case-item.result in
    let is = c.case-item.is in
    let here : get_or all c.loop-case.case-index x ≡ x = cc in
    loop_step (g.N.Referred.names c.args.names.now) (flat_map (case_lines c.args.name.now c.args.flags)) (case_lines c.args.name.now c.args.flags) (λ y ys. refl) all c.loop-case.case-index x
    (seen c.loop-case.writer) (seen c.put_case.new.writer) c.loop-case-test.true here c.in_ok-put_case.ensures
    ∙ c.loop-case.invariant

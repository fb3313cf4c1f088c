use Rattle.std.proofs.Common.{◌||◌, ◌∙◌, ap, sym, List, take, arith}
use Rattle.std.proofs.lemmas.List.{take_all}
use Rattle.wr_base.specs.declared.type_use.TypeUse.{TypeUse}
use Rattle.wr_base.specs.Trees.{tree_of}
use Rattle.site_uses.proofs.Depths.{any_of, any_more, any_instance, or_assoc}
use Rattle.site_uses.proofs.depth.+any_within_use.Goals as goal

pub loop-argument-preserved : goal.loop-argument-preserved
loop-argument-preserved g t c =
    let test = g.T.UseTest.passes c.args.test.now in
    c.either-found.ensures ∙ ap (λ b. b || c.any_within_use.result) c.loop-argument.invariant
    ∙ or_assoc (test (tree_of c.args.ty.now)) (any_of test (take c.loop-argument.argument-index c.as_slice-argument-items.result.now)) c.any_within_use.result
    ∙ ap (λ b. test (tree_of c.args.ty.now) || b)
    (ap (λ b. any_of test (take c.loop-argument.argument-index c.as_slice-argument-items.result.now) || b) c.any_within_use.ensures
    ∙ sym (any_more test c.as_slice-argument-items.result.now c.loop-argument.argument-index c.argument-item.result c.loop-argument-test.true c.argument-item.is))

pub returns-after-loop-argument : goal.returns-after-loop-argument
returns-after-loop-argument g t c =
    let test = g.T.UseTest.passes c.args.test.now in
    c.loop-argument.invariant
    ∙ ap (λ (us : List TypeUse). test (tree_of c.args.ty.now) || any_of test us) (take_all c.loop-argument.argument-index c.as_slice-argument-items.result.now (omega arith) ∙ c.as_slice-argument-items.ensures)
    ∙ sym (any_instance test c.args.ty.now c.in-Inst.field-0 c.in-Inst.arguments c.in-Inst.is)

use Rattle.std.proofs.Common.{◌≡◌, ◌+◌, ◌∙◌, ℕ, ap, sym, List, take, arith}
use Rattle.std.proofs.lemmas.List.{take_all}
use Rattle.wr_base.specs.declared.type_use.TypeUse.{TypeUse}
use Rattle.wr_base.specs.Trees.{tree_of}
use Rattle.set_limits.specs.Counts.{capped}
use Rattle.set_limits.proofs.CapLaws.{one_more_capped}
use Rattle.use_limits.specs.Weights.{weight_of}
use Rattle.use_limits.proofs.WeightLaws.{sum_of, sum_more, sum_instance}
use Rattle.use_limits.proofs.weights.+weigh_use.Goals as goal

pub loop-argument-preserved : goal.loop-argument-preserved
loop-argument-preserved g t c =
    let weigh = g.W.UseWeight.weigh c.args.weight.now in
    one_more_capped c.loop-argument.total c.add-total.result (weigh (tree_of c.args.ty.now) + sum_of weigh (take c.loop-argument.argument-index c.as_slice-argument-items.result.now)) c.weigh_use.result (weight_of weigh (tree_of c.argument-item.result))
    c.loop-argument.invariant c.weigh_use.ensures c.add-total.ensures
    ∙ ap capped (behind (weigh (tree_of c.args.ty.now)) (sum_of weigh (take c.loop-argument.argument-index c.as_slice-argument-items.result.now)) (weight_of weigh (tree_of c.argument-item.result)) _
    (sum_more weigh c.as_slice-argument-items.result.now c.loop-argument.argument-index c.argument-item.result c.loop-argument-test.true c.argument-item.is))
  where
    behind : (a b d e : ℕ) → e ≡ b + d → (a + b) + d ≡ a + e
    behind a b d e q = omega (arith, q)

pub returns-after-loop-argument : goal.returns-after-loop-argument
returns-after-loop-argument g t c =
    let weigh = g.W.UseWeight.weigh c.args.weight.now in
    c.loop-argument.invariant
    ∙ ap (λ (us : List TypeUse). capped (weigh (tree_of c.args.ty.now) + sum_of weigh us)) (take_all c.loop-argument.argument-index c.as_slice-argument-items.result.now (omega arith) ∙ c.as_slice-argument-items.ensures)
    ∙ ap capped (sym (sum_instance weigh c.args.ty.now c.in-Inst.field-0 c.in-Inst.arguments c.in-Inst.is))

use Rattle.std.proofs.Common.{◌∙◌, ap, sym, take}
use Rattle.wr_base.specs.Trees.{tree_of}
use Rattle.set_limits.specs.Counts.{capped}
use Rattle.set_limits.proofs.CapLaws.{one_more_capped}
use Rattle.use_limits.specs.Weights.{weight_of}
use Rattle.use_limits.proofs.WeightLaws.{sum_of, sum_more}
use Rattle.use_limits.proofs.weights.weigh_among.Goals as goal

pub loop-ty-preserved : goal.loop-ty-preserved
loop-ty-preserved g c =
    let weigh = g.W.UseWeight.weigh c.args.weight.now in
    one_more_capped c.loop-ty.total c.add-total.result (sum_of weigh (take c.loop-ty.ty-index c.args.uses.now)) c.weigh_use.result (weight_of weigh (tree_of c.ty-item.result)) c.loop-ty.invariant c.weigh_use.ensures c.add-total.ensures
    ∙ ap capped (sym (sum_more weigh c.args.uses.now c.loop-ty.ty-index c.ty-item.result c.loop-ty-test.true c.ty-item.is))

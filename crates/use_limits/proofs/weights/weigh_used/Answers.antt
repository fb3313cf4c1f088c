use Rattle.std.proofs.Common.{◌∙◌, ap, sym, map, sum_by, take, arith}
use Rattle.std.proofs.lemmas.List.{take_all}
use Rattle.set_limits.specs.Counts.{capped}
use Rattle.set_limits.proofs.CapLaws.{one_more_capped}
use Rattle.site_uses.specs.Views.{used_view}
use Rattle.use_limits.specs.Weights.{weight_at}
use Rattle.use_limits.proofs.WeightLaws.{viewed_more}
use Rattle.use_limits.proofs.weights.weigh_used.Goals as goal

pub loop-one-preserved : goal.loop-one-preserved
loop-one-preserved g c =
    let weigh = g.W.UseWeight.weigh c.args.weight.now in
    one_more_capped c.loop-one.total c.add-total.result (sum_by (weight_at weigh) (map used_view (take c.loop-one.one-index c.args.used.now))) c.weigh_shape.result (weight_at weigh (used_view c.one-item.result)) c.loop-one.invariant c.weigh_shape.ensures c.add-total.ensures
    ∙ ap capped (sym (viewed_more (weight_at weigh) used_view c.args.used.now c.loop-one.one-index c.one-item.result c.loop-one-test.true c.one-item.is))

pub returns : goal.returns
returns g c =
    let weigh = g.W.UseWeight.weigh c.args.weight.now in
    c.loop-one.invariant ∙ ap (λ xs. capped (sum_by (weight_at weigh) (map used_view xs))) (take_all c.loop-one.one-index c.args.used.now (omega arith))

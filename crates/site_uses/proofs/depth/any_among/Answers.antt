use Rattle.std.proofs.Common.{◌||◌, ◌∙◌, ap, sym, take}
use Rattle.site_uses.proofs.Depths.{any_of, any_more}
use Rattle.site_uses.proofs.depth.any_among.Goals as goal

pub loop-ty-preserved : goal.loop-ty-preserved
loop-ty-preserved g c =
    let test = g.T.UseTest.passes c.args.test.now in
    c.either-found.ensures ∙ ap (λ b. b || c.any_within_use.result) c.loop-ty.invariant ∙ ap (λ b. any_of test (take c.loop-ty.ty-index c.args.uses.now) || b) c.any_within_use.ensures
    ∙ sym (any_more test c.args.uses.now c.loop-ty.ty-index c.ty-item.result c.loop-ty-test.true c.ty-item.is)

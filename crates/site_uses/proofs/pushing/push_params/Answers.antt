use Rattle.std.proofs.Common.{map}
use Rattle.wr_base.specs.declared.declaration.Param.{Param}
use Rattle.wr_rules.specs.Uses.{used_at, passed}
use Rattle.placed_sites.specs.Views.{spot_view}
use Rattle.site_uses.specs.Views.{used_view}
use Rattle.site_uses.proofs.Lists.{mapped_more}
use Rattle.site_uses.proofs.pushing.push_params.Goals as goal

pub loop-param-preserved : goal.loop-param-preserved
loop-param-preserved c =
    mapped_more (map used_view c.args.list.now.items) (map used_view c.loop-param.list.items) (map used_view c.push_use.new.list.items) c.args.params.now c.loop-param.param-index c.param-item.result
    c.loop-param-test.true c.param-item.is (λ (x : Param). used_at passed (spot_view c.args.spot) x.ty) c.in_ok-push_use.ensures c.loop-param.invariant

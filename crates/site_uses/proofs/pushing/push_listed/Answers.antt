use Rattle.std.proofs.Common.{map}
use Rattle.wr_rules.specs.Uses.{used_at, listed}
use Rattle.placed_sites.specs.Views.{spot_view}
use Rattle.site_uses.specs.Views.{used_view}
use Rattle.site_uses.proofs.Lists.{mapped_more}
use Rattle.site_uses.proofs.pushing.push_listed.Goals as goal

pub loop-ty-preserved : goal.loop-ty-preserved
loop-ty-preserved c =
    mapped_more (map used_view c.args.list.now.items) (map used_view c.loop-ty.list.items) (map used_view c.push_use.new.list.items) c.args.uses.now c.loop-ty.ty-index c.ty-item.result
    c.loop-ty-test.true c.ty-item.is (used_at listed (spot_view c.args.spot)) c.in_ok-push_use.ensures c.loop-ty.invariant

use Rattle.std.proofs.Common.{map}
use Rattle.wr_rules.specs.Uses.{name_at}
use Rattle.placed_sites.specs.Views.{spot_view}
use Rattle.site_uses.specs.Views.{used_view}
use Rattle.site_uses.proofs.Lists.{mapped_more}
use Rattle.site_uses.proofs.pushing.push_names.Goals as goal

pub loop-name-preserved : goal.loop-name-preserved
loop-name-preserved c =
    mapped_more (map used_view c.args.list.now.items) (map used_view c.loop-name.list.items) (map used_view c.push_name.new.list.items) c.args.names.now c.loop-name.name-index c.name-item.result
    c.loop-name-test.true c.name-item.is (name_at (spot_view c.args.spot)) c.in_ok-push_name.ensures c.loop-name.invariant

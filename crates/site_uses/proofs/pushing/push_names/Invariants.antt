use Rattle.std.proofs.Common.{◌≡◌, ◌++◌, map, take}
use Rattle.wr_rules.specs.Uses.{name_at}
use Rattle.placed_sites.specs.Views.{spot_view}
use Rattle.site_uses.specs.Views.{used_view}
use Rattle.site_uses.proofs.pushing.push_names.Given as goal

abbrev pub invariant-loop-name : goal.invariant-loop-name
invariant-loop-name l = map used_view l.list.items ≡ map used_view l.initial.list.items ++ map (name_at (spot_view l.spot)) (take l.name-index l.names)

use Rattle.std.proofs.Common.{◌≡◌, ◌++◌, map, take}
use Rattle.wr_rules.specs.Uses.{used_at, listed}
use Rattle.placed_sites.specs.Views.{spot_view}
use Rattle.site_uses.specs.Views.{used_view}
use Rattle.site_uses.proofs.pushing.push_listed.Given as goal

abbrev pub invariant-loop-ty : goal.invariant-loop-ty
invariant-loop-ty l = map used_view l.list.items ≡ map used_view l.initial.list.items ++ map (used_at listed (spot_view l.spot)) (take l.ty-index l.uses)

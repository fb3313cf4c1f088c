use Rattle.std.proofs.Common.{◌≡◌, ◌++◌, map, take}
use Rattle.wr_base.specs.declared.declaration.Param.{Param}
use Rattle.wr_rules.specs.Uses.{used_at, passed}
use Rattle.placed_sites.specs.Views.{spot_view}
use Rattle.site_uses.specs.Views.{used_view}
use Rattle.site_uses.proofs.pushing.push_params.Given as goal

abbrev pub invariant-loop-param : goal.invariant-loop-param
invariant-loop-param l = map used_view l.list.items ≡ map used_view l.initial.list.items ++ map (λ (x : Param). used_at passed (spot_view l.spot) x.ty) (take l.param-index l.params)

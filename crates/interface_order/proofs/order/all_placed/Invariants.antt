use Rattle.std.proofs.Common.{◌≡◌, map, take}
use Rattle.interface_order.specs.Order.{placed_of}
use Rattle.interface_order.proofs.order.all_placed.Given as goal

abbrev pub invariant-loop-ty : goal.invariant-loop-ty
invariant-loop-ty g l = l.all.items ≡ map (placed_of (g.N.Referred.names l.names)) (take l.ty-index l.uses)

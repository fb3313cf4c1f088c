use Rattle.std.proofs.Common.{◌≡◌, map}
use Rattle.interface_order.specs.declared.order.Placed.{Placed}
use Rattle.interface_order.proofs.order.uses_of.Given as goal

abbrev pub invariant-loop-placed : goal.invariant-loop-placed
invariant-loop-placed l = l.uses.items ≡ map (λ (placed : Placed). placed.ty) l.yielded

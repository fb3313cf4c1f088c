use Rattle.std.proofs.Common.{◌≡◌, ◌++◌, map}
use Rattle.std.specs.Vec.Iter.{into_iter_items}
use Rattle.winmd_set.proofs.order.declarations.Given as goal

abbrev pub invariant-loop-stated : goal.invariant-loop-stated
invariant-loop-stated l = l.done.items ++ map (λ s. s.declaration) (into_iter_items l.stated-iterator) ≡ map (λ s. s.declaration) l.fn.list.items

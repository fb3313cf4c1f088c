use Rattle.std.proofs.Common.{◌≡◌, ◌++◌, map}
use Rattle.std.specs.Vec.Iter.{into_iter_items}
use Rattle.winmd_classes.proofs.implemented.types.Given as goal

abbrev pub invariant-loop-interface : goal.invariant-loop-interface
invariant-loop-interface l = l.types.items ++ map (λ entry. entry.ty) (into_iter_items l.interface-iterator) ≡ map (λ entry. entry.ty) l.fn.interfaces.items

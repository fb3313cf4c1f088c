use Rattle.std.proofs.Common.{◌≡◌, ◌++◌}
use Rattle.std.specs.Vec.Iter.{into_iter_items}
use Rattle.winmd_rows.specs.Faults.{somes}
use Rattle.winmd_classes.proofs.defaults.somes.Given as goal

abbrev pub invariant-loop-ty : goal.invariant-loop-ty
invariant-loop-ty l = l.found.items ++ somes (into_iter_items l.ty-iterator) ≡ somes l.fn.list.items

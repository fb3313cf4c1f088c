use Rattle.std.proofs.Common.{◌≡◌, ◌++◌, map}
use Rattle.std.specs.Vec.Iter.{into_iter_items}
use Rattle.winmd_sets.specs.Classes.{throughs}
use Rattle.winmd_classes.specs.Seen.{making_seen}
use Rattle.winmd_classes.proofs.makings.throughs.Given as goal

abbrev pub invariant-loop-making : goal.invariant-loop-making
invariant-loop-making l = l.names.items ++ throughs (map making_seen (into_iter_items l.making-iterator)) ≡ throughs (map making_seen l.fn.makings.items)

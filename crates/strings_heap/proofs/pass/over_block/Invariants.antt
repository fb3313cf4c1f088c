use Rattle.strings_heap.proofs.PlaceLaws.{Walked}
use Rattle.strings_heap.proofs.pass.over_block.Given as goal

abbrev pub invariant-loop-at : goal.invariant-loop-at
invariant-loop-at l = Walked l.bytes l.start l.at l.place

abbrev pub decreases-loop-at : goal.decreases-loop-at
decreases-loop-at l = l.at

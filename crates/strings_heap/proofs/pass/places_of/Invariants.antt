use Rattle.strings_heap.proofs.PlaceLaws.{Passed}
use Rattle.strings_heap.proofs.pass.places_of.Given as goal

abbrev pub invariant-loop-at : goal.invariant-loop-at
invariant-loop-at l = Passed l.bytes l.places.items l.at l.place

abbrev pub decreases-loop-at : goal.decreases-loop-at
decreases-loop-at l = l.at

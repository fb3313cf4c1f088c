use Rattle.std.proofs.Common.{◌≡◌, ◌≤◌, ◌+◌, ℕ, List, drop, length}
use Rattle.sig_blobs.specs.Numbers.{number_in}
use Rattle.winmd_names.specs.Numbers.{def_number}
use Rattle.winmd_names.proofs.numbers.add_types.Given as goal

abbrev pub invariant-loop-left : goal.invariant-loop-left
invariant-loop-left l = (l.left ≤ length l.types) × ((full : List ℕ) → number_in l.tokens full ≡ def_number (l.left + 2) (drop l.left l.types) full (number_in l.fn.tokens full))

abbrev pub decreases-loop-left : goal.decreases-loop-left
decreases-loop-left l = l.left

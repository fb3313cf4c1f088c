use Rattle.std.proofs.Common.{◌≡◌, ◌≤◌, ◌+◌, ℕ, List, map, drop, length, string_bytes}
use Rattle.sig_blobs.specs.Numbers.{number_in}
use Rattle.winmd_names.specs.Numbers.{ref_number}
use Rattle.winmd_names.proofs.numbers.add_references.Given as goal

abbrev pub invariant-loop-left : goal.invariant-loop-left
invariant-loop-left l = (l.left ≤ length l.refs) × ((full : List ℕ) → number_in l.tokens full ≡ ref_number (l.left + 1) (map string_bytes (drop l.left l.refs)) full (number_in l.fn.tokens full))

abbrev pub decreases-loop-left : goal.decreases-loop-left
decreases-loop-left l = l.left

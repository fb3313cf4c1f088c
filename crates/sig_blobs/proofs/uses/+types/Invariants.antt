use Rattle.std.proofs.Common.{◌≡◌, ◌+◌, ◌*◌, ◌-◌, map}
use Rattle.sig_blobs.specs.Reading.{several}
use Rattle.sig_blobs.specs.Several.{behind}
use Rattle.sig_blobs.specs.Tokens.{meaning_in}
use Rattle.wr_base.specs.Trees.{tree_of}
use Rattle.sig_blobs.specs.Uses.{use_within}
use Rattle.sig_blobs.proofs.uses.+types.Given as goal

abbrev pub decreases-use_within : goal.decreases-use_within
decreases-use_within l = 3 * l.depth

abbrev pub decreases-completed : goal.decreases-completed
decreases-completed l = 3 * l.depth + 2

abbrev pub decreases-arguments : goal.decreases-arguments
decreases-arguments l = 3 * l.depth + 1

abbrev pub invariant-arguments-loop-i : goal.invariant-arguments-loop-i
invariant-arguments-loop-i l =
    behind (map tree_of l.list) (several (use_within l.depth (meaning_in l.names)) (l.count - l.i) l.rest) ≡ several (use_within l.depth (meaning_in l.names)) l.count l.fn.bytes

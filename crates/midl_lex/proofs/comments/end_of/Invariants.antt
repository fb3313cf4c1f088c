use Rattle.std.proofs.Common.{◌≡◌, ◌+◌, length}
use Rattle.midl_lex.specs.Comments.{find_end}
use Rattle.midl_lex.proofs.Ends.{after}
use Rattle.midl_lex.proofs.comments.end_of.Given as goal

abbrev pub invariant-more : goal.invariant-more
invariant-more l = (after l.count (find_end l.rest) ≡ find_end l.fn.bytes) × (l.count + length l.rest ≡ length l.fn.bytes)

abbrev pub decreases-more : goal.decreases-more
decreases-more l = length l.rest

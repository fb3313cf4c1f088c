use Rattle.std.proofs.Common.{◌≡◌, ◌+◌, length, drop}
use Rattle.midl_lex.proofs.Cutting.{SoFar}
use Rattle.midl_lex.proofs.lexing.cut_all.Given as goal

abbrev pub invariant-more : goal.invariant-more
invariant-more l = record { so_far : SoFar l.bytes l.found.items l.offset; rest : l.rest ≡ drop l.offset l.bytes; total : l.offset + length l.rest ≡ length l.bytes }

abbrev pub decreases-more : goal.decreases-more
decreases-more l = length l.rest

use Rattle.source_set.proofs.LineLemmas.{Behind}
use Rattle.source_set.proofs.lines.position_behind.Given as goal

abbrev pub invariant-loop-byte : goal.invariant-loop-byte
invariant-loop-byte l = Behind l.bytes l.byte-index l.line l.column

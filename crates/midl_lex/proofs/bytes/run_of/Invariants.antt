use Rattle.std.proofs.Common.{◌≡◌, ◌+◌, drop}
use Rattle.midl_lex.specs.Bytes.{passes, run}
use Rattle.midl_lex.proofs.bytes.run_of.Given as goal

abbrev pub invariant-more : goal.invariant-more
invariant-more l = (l.count ≡ l.byte-index) × (l.count + run (passes l.kind) (drop l.byte-index l.bytes) ≡ run (passes l.kind) l.bytes)

use Rattle.std.proofs.Common.{◌≡◌}
use Rattle.wr_base.specs.Places.{numbered}
use Rattle.wr_base.proofs.places.number.Given as goal

abbrev pub invariant-loop-k : goal.invariant-loop-k
invariant-loop-k l = l.places ≡ numbered l.from l.k

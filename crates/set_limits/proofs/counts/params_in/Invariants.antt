use Rattle.std.proofs.Common.{◌≡◌, map, sum, take}
use Rattle.set_limits.specs.Counts.{capped, params_of}
use Rattle.set_limits.proofs.counts.params_in.Given as goal

abbrev pub invariant-loop-signature : goal.invariant-loop-signature
invariant-loop-signature l = l.total ≡ capped (sum (map params_of (take l.signature-index l.signatures)))

use Rattle.std.proofs.Common.{take}
use Rattle.chains.specs.Graphs.{In}
use Rattle.list_rules.proofs.open.has.Given as goal

abbrev pub invariant-loop-y : goal.invariant-loop-y
invariant-loop-y l = In l.x (take l.y-index l.list) → ⊥

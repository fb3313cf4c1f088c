use Rattle.std.proofs.Common.{take}
use Rattle.class_synthesis.specs.Taken.{Adds}
use Rattle.class_synthesis.proofs.taken.mark_all.Given as goal

abbrev pub invariant-loop-name : goal.invariant-loop-name
invariant-loop-name l = Adds (take l.name-index l.names) l.initial.taken l.taken

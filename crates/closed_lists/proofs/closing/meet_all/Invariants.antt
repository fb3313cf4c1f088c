use Rattle.std.proofs.Common.{take}
use Rattle.closed_lists.specs.Closing.{Meets}
use Rattle.closed_lists.proofs.closing.meet_all.Given as goal

abbrev pub invariant-loop-ty : goal.invariant-loop-ty
invariant-loop-ty l = Meets (take l.ty-index l.uses) l.initial.gathered l.gathered

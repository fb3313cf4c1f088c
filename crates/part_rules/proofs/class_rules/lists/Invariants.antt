use Rattle.std.proofs.Common.{◌≡◌, take}
use Rattle.wr_rules.specs.Closures.{lists}
use Rattle.part_rules.proofs.class_rules.lists.Given as goal

abbrev pub invariant-loop-ty : goal.invariant-loop-ty
invariant-loop-ty l = l.found ≡ lists (take l.ty-index l.uses) l.text

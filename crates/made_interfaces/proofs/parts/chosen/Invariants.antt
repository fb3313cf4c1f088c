use Rattle.std.proofs.Common.{◌≡◌, take}
use Rattle.made_interfaces.specs.Made.{chosen}
use Rattle.made_interfaces.proofs.parts.chosen.Given as goal

abbrev pub invariant-loop-i : goal.invariant-loop-i
invariant-loop-i l = l.found.items ≡ chosen (take l.i l.constructors) l.places

use Rattle.std.proofs.Common.{◌≡◌, map, take}
use Rattle.wr_base.specs.Declarations.{name_of}
use Rattle.winmd_names.proofs.whole.type_names.Given as goal

abbrev pub invariant-loop-i : goal.invariant-loop-i
invariant-loop-i l = l.names.items ≡ map name_of (take l.i l.types)

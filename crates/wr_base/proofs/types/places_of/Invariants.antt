use Rattle.std.proofs.Common.{map, take}
use Rattle.std.specs.HashMap.{get_by_text}
use Rattle.wr_base.specs.Declarations.{name_of}
use Rattle.wr_base.specs.Finding.{Finds}
use Rattle.wr_base.proofs.types.places_of.Given as goal

abbrev pub invariant-loop-i : goal.invariant-loop-i
invariant-loop-i l = Finds (take l.i (map name_of l.list)) (get_by_text l.places)

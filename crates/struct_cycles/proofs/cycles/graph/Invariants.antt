use Rattle.std.proofs.Common.{◌≡◌, take, map}
use Rattle.chains.specs.Groups.{graph_of}
use Rattle.struct_cycles.specs.Places.{held_by}
use Rattle.struct_cycles.proofs.cycles.graph.Given as goal

abbrev pub invariant-loop-i : goal.invariant-loop-i
invariant-loop-i l = graph_of l.graph.items ≡ map (held_by l.types) (take l.i l.types)

use Rattle.std.proofs.Common.{take}
use Rattle.std.specs.List.{flat_map}
use Rattle.pinterface_id.specs.Gathering.{Gathers, type_ids}
use Rattle.pinterface_id.proofs.listing.+gather_use.Given as goal

abbrev pub invariant-loop-argument : goal.invariant-loop-argument
invariant-loop-argument l = Gathers (flat_map (type_ids l.types) (take l.argument-index l.argument-items)) l.initial.gathered l.gathered

use Rattle.std.proofs.Common.{take}
use Rattle.std.specs.List.{flat_map}
use Rattle.pinterface_id.specs.Gathering.{Gathers, type_ids}
use Rattle.pinterface_id.proofs.listing.gather_uses.Given as goal

abbrev pub invariant-loop-ty : goal.invariant-loop-ty
invariant-loop-ty l = Gathers (flat_map (type_ids l.types) (take l.ty-index l.uses)) l.initial.gathered l.gathered

use Rattle.std.proofs.Common.{take}
use Rattle.std.specs.List.{flat_map}
use Rattle.pinterface_id.specs.Gathering.{Gathers, name_ids}
use Rattle.pinterface_id.proofs.listing.gather_names.Given as goal

abbrev pub invariant-loop-name : goal.invariant-loop-name
invariant-loop-name l = Gathers (flat_map (name_ids l.types) (take l.name-index l.names)) l.initial.gathered l.gathered

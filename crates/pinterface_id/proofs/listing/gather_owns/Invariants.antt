use Rattle.std.proofs.Common.{take}
use Rattle.std.specs.List.{flat_map}
use Rattle.pinterface_id.specs.Gathering.{Gathers, own_ids}
use Rattle.pinterface_id.proofs.listing.gather_owns.Given as goal

abbrev pub invariant-loop-i : goal.invariant-loop-i
invariant-loop-i l = Gathers (flat_map (own_ids) (take l.i l.types)) l.initial.gathered l.gathered

use Rattle.std.proofs.Common.{take}
use Rattle.std.specs.List.{flat_map}
use Rattle.pinterface_id.specs.Gathering.{Gathers}
use Rattle.pinterface_id.specs.Listing.{ids_in}
use Rattle.pinterface_id.proofs.listing.gather_declarations.Given as goal

abbrev pub invariant-loop-i : goal.invariant-loop-i
invariant-loop-i l = Gathers (flat_map (ids_in l.types) (take l.i l.types)) l.initial.gathered l.gathered

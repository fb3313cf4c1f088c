use Rattle.std.proofs.Common.{take}
use Rattle.std.specs.List.{flat_map}
use Rattle.pinterface_id.specs.Gathering.{Gathers, member_ids}
use Rattle.pinterface_id.proofs.listing.gather_members.Given as goal

abbrev pub invariant-loop-member : goal.invariant-loop-member
invariant-loop-member l = Gathers (flat_map (member_ids l.types) (take l.member-index l.members)) l.initial.gathered l.gathered

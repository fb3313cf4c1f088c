use Rattle.std.proofs.Common.{take}
use Rattle.std.specs.List.{flat_map}
use Rattle.pinterface_id.specs.Gathering.{Gathers, field_ids}
use Rattle.pinterface_id.proofs.listing.gather_fields.Given as goal

abbrev pub invariant-loop-field : goal.invariant-loop-field
invariant-loop-field l = Gathers (flat_map (field_ids l.types) (take l.field-index l.fields)) l.initial.gathered l.gathered

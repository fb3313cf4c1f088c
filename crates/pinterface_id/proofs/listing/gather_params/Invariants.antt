use Rattle.std.proofs.Common.{take}
use Rattle.std.specs.List.{flat_map}
use Rattle.pinterface_id.specs.Gathering.{Gathers, param_ids}
use Rattle.pinterface_id.proofs.listing.gather_params.Given as goal

abbrev pub invariant-loop-param : goal.invariant-loop-param
invariant-loop-param l = Gathers (flat_map (param_ids l.types) (take l.param-index l.params)) l.initial.gathered l.gathered

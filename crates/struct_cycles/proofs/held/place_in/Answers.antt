use Rattle.struct_cycles.proofs.PlaceLaws.{place_found}
use Rattle.struct_cycles.proofs.held.place_in.Goals as goal

pub returns : goal.returns
returns c = place_found c.args.types.now c.args.name.now c.find.result c.find.ensures.order c.find.ensures.found c.find.ensures.absent

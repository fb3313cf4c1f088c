use Rattle.std.proofs.Common.{arith}
use Rattle.pinterface_id.specs.Listing.{ids_in}
use Rattle.pinterface_id.proofs.Gatherings.{gathers_turn_at, gathers_flat}
use Rattle.pinterface_id.proofs.listing.gather_declarations.Goals as goal

pub loop-i-preserved : goal.loop-i-preserved
loop-i-preserved c = gathers_turn_at (ids_in c.args.types.now) c.args.types.now c.loop-i.i c.at.result.now c.args.gathered.now c.loop-i.gathered c.gather_declaration.new.gathered c.at.ensures.value c.loop-i.invariant c.in_ok-gather_declaration.ensures

pub returns : goal.returns
returns c = gathers_flat c.args.types.now c.loop-i.i c.args.gathered.now c.loop-i.gathered (omega (arith, c.len-i-end.ensures.len)) (ids_in c.args.types.now) c.loop-i.invariant

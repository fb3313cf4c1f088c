use Rattle.std.proofs.Common.{arith}
use Rattle.pinterface_id.specs.Gathering.{own_ids}
use Rattle.pinterface_id.specs.Listing.{declared_id}
use Rattle.pinterface_id.proofs.Gatherings.{gathers_turn_at, gathers_filtered}
use Rattle.pinterface_id.proofs.listing.gather_owns.Goals as goal

pub loop-i-preserved : goal.loop-i-preserved
loop-i-preserved c = gathers_turn_at own_ids c.args.types.now c.loop-i.i c.at.result.now c.args.gathered.now c.loop-i.gathered c.gather_own.new.gathered c.at.ensures.value c.loop-i.invariant c.in_ok-gather_own.ensures

pub returns : goal.returns
returns c = gathers_filtered c.args.types.now c.loop-i.i c.args.gathered.now c.loop-i.gathered (omega (arith, c.len-i-end.ensures.len)) declared_id c.loop-i.invariant

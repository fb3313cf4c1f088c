use Rattle.std.proofs.Common.{◌<◌, refl, length, get_or, arith}
use Rattle.chains.proofs.Marking.{In-get_or}
use Rattle.chains.proofs.ClosureLaws.{met_more}
use Rattle.chains.proofs.closure.meet_all.Goals as goal

pub meet-requires-clause-within : goal.meet-requires-clause-within
meet-requires-clause-within c =
    let l : c.loop-x.x-index < length c.args.list.now = omega arith in
    let within = c.requires.within (get_or c.args.list.now c.loop-x.x-index 0) (In-get_or c.args.list.now c.loop-x.x-index l) in
    omega (arith, within)

pub loop-x-preserved : goal.loop-x-preserved
loop-x-preserved c = record {
  told = c.in_ok-meet.ensures.told;
  met = met_more c.args.list.now c.args.found.now.items c.loop-x.found.items c.meet.new.found.items c.loop-x.x-index (get_or c.args.list.now c.loop-x.x-index 0) (omega arith) refl c.loop-x.invariant.met c.in_ok-meet.ensures.met;
}

use Rattle.wr_base.proofs.PlaceLemmas.{numbered_more}
use Rattle.wr_base.proofs.places.number.Goals as goal

pub loop-k-preserved : goal.loop-k-preserved
loop-k-preserved c = numbered_more c.args.from c.loop-k.k c.loop-k.places c.push.new.self c.loop-k.invariant c.in_ok-push.ensures.ok

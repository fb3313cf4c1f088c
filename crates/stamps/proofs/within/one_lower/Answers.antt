use Rattle.std.proofs.Common.{refl, get_or, arith}
use Rattle.chains.proofs.Marking.{In-get_or}
use Rattle.stamps.proofs.Stamps.{high_more}
use Rattle.stamps.proofs.within.one_lower.Goals as goal

pub bounds-stamps-x : goal.bounds-stamps-x
bounds-stamps-x c =
    let within = c.requires.within (get_or c.args.list.now c.loop-x.x-index 0) (In-get_or c.args.list.now c.loop-x.x-index (omega arith)) in
    omega (arith, within)

pub returns-then-stamps-x : goal.returns-then-stamps-x
returns-then-stamps-x c = (λ t. record { x = get_or c.args.list.now c.loop-x.x-index 0; of_list = In-get_or c.args.list.now c.loop-x.x-index (omega arith); below = (let k = c.if-stamps-x.true in omega (arith, k)) }, λ o. refl)

pub loop-x-preserved : goal.loop-x-preserved
loop-x-preserved c = high_more c.args.stamps.now c.args.mine c.args.list.now c.loop-x.x-index (get_or c.args.list.now c.loop-x.x-index 0) (omega arith) refl (let k = c.if-stamps-x.false in omega (arith, k)) c.loop-x.invariant

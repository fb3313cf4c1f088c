use Rattle.std.proofs.Common.{arith}
use Rattle.wr_base.proofs.PlaceLemmas.{next_fits, total_next}
use Rattle.wr_base.proofs.places.Listed+DeclPlaces.fits.Goals as goal

pub returns-then-parts-last : goal.returns-then-parts-last
returns-then-parts-last c =
    let fits = next_fits c.args.types.now c.loop-i.i c.loop-i.next c.at.result.now c.at.ensures.value c.loop-i.invariant.next in
    (λ no. cc, λ few. absurd (omega (arith, few, fits, c.count_parts-parts.ensures, c.if-parts-last.true)))

pub loop-i-preserved : goal.loop-i-preserved
loop-i-preserved c = record {
  next = omega (arith, c.count_parts-parts.ensures, total_next c.args.types.now c.loop-i.i c.loop-i.next c.at.result.now c.at.ensures.value c.loop-i.invariant.next);
  small = omega arith;
}

use Rattle.std.proofs.Common.{◌∙◌, arith, rules}
use Rattle.wr_outside.specs.Files.{content_of}
use Rattle.wr_outside.proofs.FileLemmas.{read_more, IfSome-step}
use Rattle.wr_outside.proofs.whole.fill.Goals as goal

pub loop-filled-preserved : goal.loop-filled-preserved
loop-filled-preserved g c = record {
  within = search rules;
  told = IfSome-step _ _ c.loop-filled.invariant.kept
      (λ files. read_more (content_of files c.args.name.now) c.loop-filled.into c.read_at.new.into c.loop-filled.filled c.in-Ok.count
      (omega arith) (omega arith) (omega (arith, c.in-Ok.ensures.fits)))
      c.loop-filled.invariant.told c.in-Ok.ensures.told;
  kept = c.in-Ok.ensures.kept ∙ c.loop-filled.invariant.kept;
  later = omega (arith, c.in-Ok.ensures.cause.later);
}

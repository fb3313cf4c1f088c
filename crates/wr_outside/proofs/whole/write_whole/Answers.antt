use Rattle.std.proofs.Common.{arith}
use Rattle.wr_outside.proofs.FileLemmas.{append_more, append_failed}
use Rattle.wr_outside.proofs.whole.write_whole.Goals as goal

pub loop-written-preserved : goal.loop-written-preserved
loop-written-preserved g c = record {
  within = omega (arith, c.in-Ok-append.ensures.fits);
  held = append_more _ _ _ c.args.name.now c.loop-written.written c.in-Ok-append.count c.args.bytes.now c.loop-written.invariant.held c.in-Ok-append.ensures.ok;
  later = omega (arith, c.in-Ok-append.ensures.cause.later);
}

pub returns-in-Err-append-clause-err : goal.returns-in-Err-append-clause-err
returns-in-Err-append-clause-err g c =
    append_failed _ _ _ c.args.name.now c.loop-written.written c.args.bytes.now c.loop-written.invariant.held c.in-Err-append.ensures.err

use Rattle.std.proofs.Common.{◌+◌, arith}
use Rattle.wr_outside.proofs.FileLemmas.{put_more}
use Rattle.wr_outside.proofs.whole.put_all.Goals as goal

pub loop-put-preserved : goal.loop-put-preserved
loop-put-preserved g c = record {
  within = omega (arith, c.in-Ok.ensures.fits);
  told = put_more _ _ _ c.loop-put.put c.in-Ok.count c.args.bytes.now c.loop-put.invariant.told c.in-Ok.ensures.ok;
  later = omega (arith, c.in-Ok.ensures.cause.later);
}

pub returns-in-Err-clause-err : goal.returns-in-Err-clause-err
returns-in-Err-clause-err g c =
    let part = c.in-Err.ensures.err in
    (c.loop-put.put + part.0, put_more _ _ _ c.loop-put.put part.0 c.args.bytes.now c.loop-put.invariant.told part.1)

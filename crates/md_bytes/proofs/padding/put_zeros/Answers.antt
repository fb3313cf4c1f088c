use Rattle.std.proofs.Common.{◌++◌}
use Rattle.md_bytes.specs.Padding.{zeros}
use Rattle.md_bytes.proofs.ZeroLemmas.{next_zero, no_zeros}
use Rattle.md_bytes.proofs.padding.put_zeros.Goals as goal

pub loop-preserved : goal.loop-preserved
loop-preserved c = rw c.in_ok-push.ensures.items (next_zero c.loop.out.items (c.args.out.now.items ++ zeros c.args.count) c.args.count c.loop.counter c.loop-test.true c.loop.invariant)

pub returns : goal.returns
returns c = no_zeros c.loop.out.items (c.args.out.now.items ++ zeros c.args.count) c.args.count c.loop.counter c.loop-test.false c.loop.invariant

use Rattle.std.proofs.Common.{rules}
use Rattle.sig_blobs.specs.Appending.{KeepsFront}
use Rattle.sig_blobs.proofs.FrontLaws.{keeps_on}
use Rattle.sig_blobs.proofs.put_arguments.put_arguments.Goals as goal

pub returns-in_err-put_argument-clause-front : goal.returns-in_err-put_argument-clause-front
returns-in_err-put_argument-clause-front c =
    let front : KeepsFront c.args.into.now.items c.put_argument.new.into.items = keeps_on _ _ _ _ c.loop-argument.invariant c.in_err-put_argument.ensures.front in
    search rules

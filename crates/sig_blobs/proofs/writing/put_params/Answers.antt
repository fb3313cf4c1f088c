use Rattle.std.proofs.Common.{rules}
use Rattle.sig_blobs.specs.Appending.{KeepsFront}
use Rattle.sig_blobs.proofs.FrontLaws.{keeps_on}
use Rattle.sig_blobs.proofs.writing.put_params.Goals as goal

pub returns-in_err-put_param-clause-front : goal.returns-in_err-put_param-clause-front
returns-in_err-put_param-clause-front c =
    let front : KeepsFront c.args.into.now.items c.put_param.new.into.items = keeps_on _ _ _ _ c.loop-param.invariant c.in_err-put_param.ensures.front in
    search rules

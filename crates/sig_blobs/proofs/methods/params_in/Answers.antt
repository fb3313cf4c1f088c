use Rattle.std.proofs.Common.{◌≡◌, suc, ◌-◌, ◌+◌, arith}
use Rattle.sig_blobs.specs.Signatures.{param_in}
use Rattle.sig_blobs.specs.Tokens.{meaning_in}
use Rattle.wr_base.specs.Trees.{param_tree}
use Rattle.sig_blobs.proofs.SeveralLaws.{turn}
use Rattle.sig_blobs.proofs.methods.params_in.Goals as goal

pub loop-i-preserved : goal.loop-i-preserved
loop-i-preserved c =
    let e : c.args.count - c.loop-i.i ≡ suc (c.args.count - (c.loop-i.i + 1)) = omega arith in
    turn param_tree (param_in (meaning_in c.args.names.now)) c.loop-i.list c.push.new.self _ _ c.in_ok-param.param c.loop-i.rest.now c.in_ok-param.behind.now _ e c.in_ok-param.ensures c.in_ok-push.ensures.ok c.loop-i.invariant

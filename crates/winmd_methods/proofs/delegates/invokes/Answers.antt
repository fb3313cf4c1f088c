use Rattle.winmd_methods.proofs.InvokeLaws.{invoke_more}
use Rattle.winmd_methods.proofs.delegates.invokes.Goals as goal

pub loop-method-preserved : goal.loop-method-preserved
loop-method-preserved c =
    invoke_more c.args.source.now.image c.args.methods.now c.loop-method.method-index _ c.loop-method-test.true c.loop-method.rows.items c.put.new.into.items c.is_invoke-is_kept.result c.loop-method.invariant c.is_invoke-is_kept.ensures
    c.in_ok-put.ensures

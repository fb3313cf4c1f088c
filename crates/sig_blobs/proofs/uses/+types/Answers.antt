use Rattle.std.proofs.Common.{◌≡◌, suc, ◌-◌, ◌+◌, arith}
use Rattle.sig_blobs.specs.Fronts.{front_of}
use Rattle.sig_blobs.specs.Tokens.{meaning_in}
use Rattle.wr_base.specs.Trees.{tree_of}
use Rattle.sig_blobs.specs.Uses.{use_within}
use Rattle.sig_blobs.proofs.SeveralLaws.{deeper, turn}
use Rattle.sig_blobs.proofs.uses.+types.Goals as goal

pub arguments-loop-i-preserved : goal.arguments-loop-i-preserved
arguments-loop-i-preserved t c =
    let e : c.args.count - c.loop-i.i ≡ suc (c.args.count - (c.loop-i.i + 1)) = omega arith in
    turn tree_of (use_within c.args.depth (meaning_in c.args.names.now)) c.loop-i.list c.push.new.self _ _ c.in_ok-argument.argument c.loop-i.rest.now c.in_ok-argument.behind.now _ e c.in_ok-argument.ensures c.in_ok-push.ensures.ok c.loop-i.invariant

pub use_within-returns : goal.use_within-returns
use_within-returns t c =
    let e : c.args.depth ≡ suc (c.args.depth - 1) = omega arith in
    rw (deeper (meaning_in c.args.names.now) c.args.depth (c.args.depth - 1) c.args.bytes.now c.in_ok-rest.rest.now (front_of c.in_ok-front.front) c.in_ok-front.behind.now e c.in_ok-rest.ensures c.in_ok-front.ensures) c.completed.ensures

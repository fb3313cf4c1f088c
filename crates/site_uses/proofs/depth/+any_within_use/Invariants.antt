use Rattle.std.proofs.Common.{◌≡◌, ◌||◌, take}
use Rattle.wr_base.specs.Trees.{tree_of}
use Rattle.site_uses.proofs.Depths.{any_of}
use Rattle.site_uses.proofs.depth.+any_within_use.Given as goal

abbrev pub invariant-loop-argument : goal.invariant-loop-argument
invariant-loop-argument g l = l.found ≡ (g.T.UseTest.passes l.test (tree_of l.ty) || any_of (g.T.UseTest.passes l.test) (take l.argument-index l.argument-items))

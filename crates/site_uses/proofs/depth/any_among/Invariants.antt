use Rattle.std.proofs.Common.{◌≡◌, take}
use Rattle.site_uses.proofs.Depths.{any_of}
use Rattle.site_uses.proofs.depth.any_among.Given as goal

abbrev pub invariant-loop-ty : goal.invariant-loop-ty
invariant-loop-ty g l = l.found ≡ any_of (g.T.UseTest.passes l.test) (take l.ty-index l.uses)

use Rattle.std.proofs.Common.{◌≡◌, take}
use Rattle.wr_base.proofs.type_use.copy_uses.Given as goal

abbrev pub invariant-loop-one : goal.invariant-loop-one
invariant-loop-one l = l.copied ≡ take l.one-index l.one-items

use Rattle.std.proofs.Common.{◌≡◌, ◌++◌, take}
use Rattle.made_interfaces.proofs.class.push_uses.Given as goal

abbrev pub invariant-loop-one : goal.invariant-loop-one
invariant-loop-one l = l.into ≡ l.initial.into ++ take l.one-index l.uses

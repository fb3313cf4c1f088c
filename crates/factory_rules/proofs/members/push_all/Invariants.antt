use Rattle.std.proofs.Common.{◌≡◌, ◌++◌, take}
use Rattle.factory_rules.proofs.members.push_all.Given as goal

abbrev pub invariant-loop-one : goal.invariant-loop-one
invariant-loop-one l = l.list.items ≡ l.fn.list.items ++ take l.one-index l.more

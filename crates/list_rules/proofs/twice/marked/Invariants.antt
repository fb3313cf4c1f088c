use Rattle.std.proofs.Common.{take}
use Rattle.std.specs.BTreeSet.{contains_text}
use Rattle.list_rules.specs.Open.{Marked}
use Rattle.list_rules.proofs.twice.marked.Given as goal

abbrev pub invariant-loop-name : goal.invariant-loop-name
invariant-loop-name l = Marked (take l.name-index l.names) (contains_text l.texts)

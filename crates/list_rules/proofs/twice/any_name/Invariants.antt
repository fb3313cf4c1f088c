use Rattle.std.proofs.Common.{◌≡◌, take}
use Rattle.std.specs.List.{list_any}
use Rattle.std.specs.BTreeSet.{contains_text}
use Rattle.list_rules.proofs.twice.any_name.Given as goal

abbrev pub invariant-loop-name : goal.invariant-loop-name
invariant-loop-name l = l.any ≡ list_any (contains_text l.texts) (take l.name-index l.names)

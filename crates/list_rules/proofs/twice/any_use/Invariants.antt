use Rattle.std.proofs.Common.{◌≡◌, take}
use Rattle.std.specs.List.{list_any}
use Rattle.std.specs.BTreeSet.{contains_text}
use Rattle.list_rules.specs.Open.{is_marked}
use Rattle.list_rules.proofs.twice.any_use.Given as goal

abbrev pub invariant-loop-ty : goal.invariant-loop-ty
invariant-loop-ty l = l.any ≡ list_any (is_marked (contains_text l.texts)) (take l.ty-index l.uses)

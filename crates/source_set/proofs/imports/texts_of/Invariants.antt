use Rattle.std.proofs.Common.{◌≡◌, take}
use Rattle.std.specs.List.{flat_map}
use Rattle.source_set.specs.Found.{once}
use Rattle.source_set.specs.Imports.{text_of}
use Rattle.source_set.proofs.imports.texts_of.Given as goal

abbrev pub invariant-loop-group : goal.invariant-loop-group
invariant-loop-group l = l.texts ≡ once (flat_map (λ v. flat_map text_of v.items) (take l.group-index l.group-items))

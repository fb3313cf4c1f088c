use Rattle.std.proofs.Common.{◌≡◌, take}
use Rattle.std.specs.List.{flat_map}
use Rattle.source_set.specs.Found.{with_names}
use Rattle.source_set.specs.Imports.{text_of}
use Rattle.source_set.proofs.imports.add_group.Given as goal

abbrev pub invariant-loop-import : goal.invariant-loop-import
invariant-loop-import l = l.texts ≡ with_names l.fn.texts (flat_map text_of (take l.import-index l.group))

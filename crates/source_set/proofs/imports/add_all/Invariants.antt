use Rattle.std.proofs.Common.{◌≡◌, take, map}
use Rattle.source_set.specs.Found.{with_names, first_names}
use Rattle.source_set.specs.Imports.{behind_folder}
use Rattle.source_set.proofs.imports.add_all.Given as goal

abbrev pub invariant-loop-place : goal.invariant-loop-place
invariant-loop-place l = l.names ≡ first_names (with_names l.fn.names (map (behind_folder l.importer) (take l.place l.texts)))

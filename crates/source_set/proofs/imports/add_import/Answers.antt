use Rattle.std.proofs.Common.{sym}
use Rattle.std.proofs.lemmas.Bool.{eqb-true}
use Rattle.source_set.specs.Imports.{behind_folder}
use Rattle.source_set.proofs.NameLemmas.{full}
use Rattle.source_set.proofs.imports.add_import.Goals as goal

pub returns-then-is_full : goal.returns-then-is_full
returns-then-is_full c =
    full 257 c.args.names.now (behind_folder c.args.importer.now c.args.text.now) (eqb-true _ 257 (sym c.if-is_full.ensures.full))

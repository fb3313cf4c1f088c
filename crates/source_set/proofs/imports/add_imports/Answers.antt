use Rattle.std.proofs.Common.{sym}
use Rattle.std.proofs.lemmas.Bool.{eqb-true}
use Rattle.midl_tree.specs.Views.{source_view}
use Rattle.source_set.specs.Imports.{behind_folder, texts_of, imported}
use Rattle.source_set.proofs.NameLemmas.{full_all}
use Rattle.source_set.proofs.ImportLemmas.{each_named}
use Rattle.source_set.proofs.imports.add_imports.Goals as goal

pub returns-then-is_full : goal.returns-then-is_full
returns-then-is_full c =
    full_all 257 c.args.names.now (imported c.args.importer.now (source_view c.args.file.now)) (eqb-true _ 257 (sym c.if-is_full.ensures.full))

pub returns : goal.returns
unfolding imported
returns c =
    each_named (behind_folder c.args.importer.now) c.args.names.now c.add_all.new.names (texts_of (source_view c.args.file.now)) c.in_ok-texts.texts
    c.in_ok-texts.ensures c.in_ok-add_all.ensures

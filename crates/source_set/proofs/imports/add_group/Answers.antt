use Rattle.source_set.specs.Imports.{text_of}
use Rattle.source_set.proofs.ImportLemmas.{texts_more, texts_done}
use Rattle.source_set.proofs.imports.add_group.Goals as goal

pub loop-import-preserved : goal.loop-import-preserved
loop-import-preserved c =
    texts_more text_of c.args.texts.now c.loop-import.texts c.add_text.new.texts c.args.group.now c.loop-import.import-index c.import-item.result
    c.loop-import-test.true c.import-item.is c.loop-import.invariant c.in_ok-add_text.ensures

pub returns : goal.returns
returns c = texts_done text_of c.args.texts.now c.loop-import.texts c.args.group.now c.loop-import.import-index c.loop-import-test.false c.loop-import.invariant

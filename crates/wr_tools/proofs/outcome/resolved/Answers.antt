use Rattle.std.proofs.Common.{ap, map, sym, subst, ◌∙◌, string_bytes, List, append-nil}
use Rattle.midl_tree.specs.declared.nodes.File.{File}
use Rattle.midl_names.specs.Views.{sources_of}
use Rattle.source_set.specs.declared.source.Text.{Text}
use Rattle.source_set.specs.Reads.{sources_in, text_view}
use Rattle.source_set.proofs.SourceLemmas.{trees_again, texts_again}
use Rattle.wr_tools.specs.Made.{RefusedFirst}
use Rattle.winrt_words.specs.Words.{midl}
use Rattle.wr_tools.specs.Outcomes.{RefusalOwed}
use Rattle.wr_tools.proofs.OwedLemmas.{fault_owed, image_owed}
use Rattle.wr_tools.proofs.outcome.resolved.Goals as goal

pub returns-in-Ok-clause-is : goal.returns-in-Ok-clause-is
returns-in-Ok-clause-is c = λ out words held complete.
    let texts : List Text = c.args.set.texts.items in
    let files : List File = c.args.set.files.items in
    image_owed out words held (sources_in c.args.set) files complete (trees_again texts files c.requires) c.in-Ok.image.items c.in-Ok.ensures.made

pub returns-in-Err-Refused-clause-is : goal.returns-in-Err-Refused-clause-is
returns-in-Err-Refused-clause-is c = λ out words held complete.
    let texts : List Text = c.args.set.texts.items in
    let files : List File = c.args.set.files.items in
    let line = string_bytes c.in_ok-line-in-Err-Refused.line in
    subst (RefusalOwed (midl (out, words)) held 1) (sym (append-nil line))
    (fault_owed out words held (sources_in c.args.set) files complete (trees_again texts files c.requires)
    (map text_view c.deref.result.now) c.in-Err-Refused.refusal line (ap (map text_view) c.deref.ensures.value ∙ texts_again texts files c.requires)
    (subst (RefusedFirst (sources_of files)) c.in-Err-Refused.field-0-is c.in-Err-Refused.ensures.refused) c.in_ok-line-in-Err-Refused.ensures)

use Rattle.std.proofs.Common.{◌∙◌, ap₂}
use Rattle.clap.specs.Words.{with_rule}
use Rattle.winrt_words.specs.Forms.{files_form}
use Rattle.winrt_words.proofs.FoundLemmas.{finds_both}
use Rattle.winrt_words.proofs.form.takes_files.Goals as goal

pub returns-clause-form : goal.returns-clause-form
unfolding files_form
returns-clause-form c =
    c.in_ok-reads.ensures.shape c.file_words.ensures.local
    ∙ ap₂ with_rule (c.in_ok-writes.ensures.shape c.out_option.ensures.local ∙ ap₂ with_rule c.new-named.ensures.app c.out_option.ensures.rule) c.file_words.ensures.rule

pub returns-clause-both : goal.returns-clause-both
returns-clause-both c =
    finds_both c.new-named.result c.in_ok-writes.writes c.in_ok-reads.reads c.out_option.result c.file_words.result c.in_ok-writes.ensures c.in_ok-reads.ensures
    c.new-named.ensures.empty.0 c.new-named.ensures.empty.1 c.new-named.ensures.local c.new-named.ensures.negates
    c.out_option.ensures.plain c.out_option.ensures.local c.out_option.ensures.rule c.out_option.ensures.whole
    c.file_words.ensures.plain c.file_words.ensures.local c.file_words.ensures.rule

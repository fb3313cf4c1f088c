use Rattle.std.proofs.Common.{sym, ◌∙◌, ap}
use Rattle.source_set.specs.Imports.{unquoted, adds_file}
use Rattle.source_set.proofs.ImportLemmas.{no_text}
use Rattle.source_set.proofs.imports.add_text.Goals as goal

pub returns-then-not-branch : goal.returns-then-not-branch
returns-then-not-branch c =
    no_text c.args.texts.now c.args.import.now
    (sym (ap adds_file (c.unquoted-text.ensures ∙ ap unquoted c.as_str.ensures)) ∙ sym c.in_ok-adds_file.ensures ∙ c.if-not-branch.true)

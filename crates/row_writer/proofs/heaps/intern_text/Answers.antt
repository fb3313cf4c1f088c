use Rattle.std.proofs.Common.{sym, ◌∙◌}
use Rattle.md_heaps.proofs.ReadLaws.{text_reads}
use Rattle.row_writer.proofs.HeapLaws.{plain_utf8}
use Rattle.md_heaps.specs.Texts.{text_bytes}
use Rattle.row_writer.proofs.TightLaws.{grew_by}
use Rattle.row_writer.proofs.heaps.intern_text.Goals as goal

pub returns-in-Ok-clause-read : goal.returns-in-Ok-clause-read
returns-in-Ok-clause-read c = text_reads c.intern.new.self.bytes c.in-Ok.at c.args.text.now c.in-Ok.ensures.stands (plain_utf8 c.args.text.now (sym c.tests_plain.ensures ∙ c.if-not-tests_plain.false))

pub returns-in-Ok-clause-grew : goal.returns-in-Ok-clause-grew
returns-in-Ok-clause-grew c = grew_by text_bytes c.args.texts.now c.intern.new.self c.args.text.now c.in-Ok.at (λ at e. (c.intern.ensures.known at e).1) c.in-Ok.ensures.added

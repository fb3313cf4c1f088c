use Rattle.std.proofs.Common.{◌∙◌, Err, ap, sym, arith}
use Rattle.md_heaps.proofs.ReadLaws.{text_reads, text_broken, text_missing}
use Rattle.md_heaps.proofs.texts.text_at.Goals as goal

pub returns-in_default : goal.returns-in_default
returns-in_default c = record { exact = text_missing c.args.heap.now c.args.at (omega arith) c.in_default.ensures ∙ ap Err (sym c.fault_at-in_default.ensures) }

pub returns-in-Ok : goal.returns-in-Ok
returns-in-Ok c = record { exact = text_reads c.args.heap.now c.args.at c.in-Some.text.now c.in-Some.ensures c.in-Ok.ensures.cases.1 }

pub returns-in-Err : goal.returns-in-Err
returns-in-Err c = record { exact = text_broken c.args.heap.now c.args.at c.in-Some.text.now c.in-Some.ensures c.in-Err.ensures.cases.0 ∙ ap Err (sym c.fault_at-in-Err.ensures) }

use Rattle.md_heaps.proofs.ReadLaws.{text_reads, text_stands}
use Rattle.md_heaps.proofs.laws.text_is_read.Goals as goal

pub returns-clause-read : goal.returns-clause-read
returns-clause-read c = text_reads

pub returns-clause-stands : goal.returns-clause-stands
returns-clause-stands c = text_stands

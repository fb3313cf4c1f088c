use Rattle.md_heaps.proofs.ReadLaws.{blob_reads, blob_stands}
use Rattle.md_heaps.proofs.laws.blob_is_read.Goals as goal

pub returns-clause-read : goal.returns-clause-read
returns-clause-read c = blob_reads

pub returns-clause-stands : goal.returns-clause-stands
returns-clause-stands c = blob_stands

use Rattle.std.proofs.Common.{arith}
use Rattle.md_heaps.proofs.ReadLaws.{blob_here_reads}
use Rattle.md_heaps.specs.Blobs.{blob_bytes}
use Rattle.row_writer.proofs.TightLaws.{grew_by}
use Rattle.row_writer.proofs.heaps.intern_blob.Goals as goal

pub returns-in-Ok-clause-read : goal.returns-in-Ok-clause-read
returns-in-Ok-clause-read c = blob_here_reads c.intern.new.self.bytes c.in-Ok.at c.args.blob.now (omega (arith, c.if-blob-gt-LONGEST_BLOB.false)) c.in-Ok.ensures.stands

pub returns-in-Ok-clause-grew : goal.returns-in-Ok-clause-grew
returns-in-Ok-clause-grew c = grew_by blob_bytes c.args.blobs.now c.intern.new.self c.args.blob.now c.in-Ok.at (λ at e. (c.intern.ensures.known at e).1) c.in-Ok.ensures.added

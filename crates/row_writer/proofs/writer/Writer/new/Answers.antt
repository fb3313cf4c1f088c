use Rattle.std.proofs.Common.{refl, subst}
use Rattle.std.proofs.lemmas.Grind.{merely}
use Rattle.md_heaps.specs.Blobs.{BlobHere, blob_bytes}
use Rattle.md_heaps.specs.Heaps.{EachStands}
use Rattle.md_heaps.specs.Texts.{text_bytes}
use Rattle.md_tables.specs.Rows.{rows_in}
use Rattle.winmd_rows.specs.Values.{Text, Blob}
use Rattle.row_writer.specs.Known.{rows_seen}
use Rattle.row_writer.specs.Tight.{Has}
use Rattle.row_writer.proofs.TightLaws.{tight_first}
use Rattle.row_writer.proofs.writer.Writer.new.Goals as goal

pub invariant_of-result-clause-tight_texts : goal.invariant_of-result-clause-tight_texts
invariant_of-result-clause-tight_texts c = λ e. merely (tight_first text_bytes (λ content. Has (rows_seen c.in_ok-texts.texts c.in_ok-blobs.blobs (rows_in c.in_ok-set.set)) (Text content)) c.in_ok-texts.texts refl c.in_ok-texts.ensures.first)

pub invariant_of-result-clause-tight_blobs : goal.invariant_of-result-clause-tight_blobs
invariant_of-result-clause-tight_blobs c = λ e. merely (tight_first blob_bytes (λ content. Has (rows_seen c.in_ok-texts.texts c.in_ok-blobs.blobs (rows_in c.in_ok-set.set)) (Blob content)) c.in_ok-blobs.blobs refl c.in_ok-blobs.ensures.first)

pub invariant_of-result-clause-standing : goal.invariant_of-result-clause-standing
invariant_of-result-clause-standing c = subst (EachStands BlobHere) c.blobs.view_is c.blobs.invariant

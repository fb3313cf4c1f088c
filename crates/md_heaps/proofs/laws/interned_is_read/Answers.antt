use Rattle.md_heaps.proofs.ReadLaws.{interned_text, interned_blob}
use Rattle.md_heaps.proofs.laws.interned_is_read.Goals as goal

pub returns-clause-texts : goal.returns-clause-texts
returns-clause-texts c = interned_text

pub returns-clause-blobs : goal.returns-clause-blobs
returns-clause-blobs c = interned_blob

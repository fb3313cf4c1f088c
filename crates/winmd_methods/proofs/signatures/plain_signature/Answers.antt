use Rattle.winmd_methods.proofs.signatures.plain_signature.Goals as goal

pub returns : goal.returns
returns c = rw c.in_ok-blob.ensures (rw c.offset.ensures at c.method_of.ensures)

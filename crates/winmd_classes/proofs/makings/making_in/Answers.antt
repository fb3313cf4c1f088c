use Rattle.winmd_classes.proofs.makings.making_in.Goals as goal

pub returns : goal.returns
returns c = rw c.in_ok-blob.ensures (rw c.signature_offset.ensures at c.making_from.ensures)

use Rattle.winmd_members.proofs.members.property_type.Goals as goal

pub returns : goal.returns
returns c = rw c.in_ok-blob.ensures (rw c.offset.ensures at c.property_of.ensures)

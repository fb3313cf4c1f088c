use Rattle.winmd_fields.proofs.structs.field_type.Goals as goal

pub returns : goal.returns
returns c = rw c.in_ok-blob.ensures (rw c.offset.ensures at c.field_of.ensures)

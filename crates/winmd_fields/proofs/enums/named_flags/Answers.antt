use Rattle.winmd_fields.proofs.enums.named_flags.Goals as goal

pub returns : goal.returns
returns c = rw (c.in_ok-flags.ensures, c.in_ok-name.ensures) (rw c.offset.ensures at c.value_named.ensures)

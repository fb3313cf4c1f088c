use Rattle.winmd_kinds.proofs.types.read_type.Goals as goal

pub returns : goal.returns
returns c =
    rw (c.in_ok-check_outer.ensures, rw c.offset.ensures at c.in_ok-name.ensures, rw c.attributes_of_type.ensures at c.in_ok-attributes.ensures)
    (rw c.as_slice.ensures.value at c.declared.ensures)

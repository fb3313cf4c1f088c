use Rattle.std.proofs.Common.{◌∙◌, sym, arith}
use Rattle.md_tables.proofs.BitLemmas.{bit_room}
use Rattle.md_tables.proofs.header.row_count.Goals as goal

pub field-requires-clause-within : goal.field-requires-clause-within
field-requires-clause-within c =
    let room = bit_room c.args.n c.args.valid (omega arith) (sym c.has_bit.ensures ∙ c.if-has_bit.true) in
    rw c.bit_count.ensures.value (omega (arith, room, c.requires.within))

use Rattle.std.proofs.Common.{string_bytes, refl, subst}
use Rattle.image_set.specs.Turns.{Reads}
use Rattle.image_set.proofs.TurnLemmas.{any_turn, bytes_turn, long_turn}
use Rattle.image_set.proofs.reading.take_image.Goals as goal

pub returns-in-Err-TooLong-clause-turn : goal.returns-in-Err-TooLong-clause-turn
returns-in-Err-TooLong-clause-turn g c =
    let told = rw (c.in-Err-TooLong.field-0-is, c.as_str.ensures.value) at c.in-Err-TooLong.ensures.told in
    long_turn c.args.number (string_bytes c.args.name) (g.S.Store.held c.args.store.now) c.args.name c.in-Err-TooLong.field-0-0 refl c.requires told

pub returns-in-Err-Fault-clause-turn : goal.returns-in-Err-Fault-clause-turn
returns-in-Err-Fault-clause-turn g c = any_turn c.args.number (string_bytes c.args.name) (g.S.Store.held c.args.store.now) _ (λ content. (refl, c.requires))

pub returns-in-Err-Memory-clause-turn : goal.returns-in-Err-Memory-clause-turn
returns-in-Err-Memory-clause-turn g c = any_turn c.args.number (string_bytes c.args.name) (g.S.Store.held c.args.store.now) _ (λ content. tt)

pub returns-clause-turn : goal.returns-clause-turn
returns-clause-turn g c =
    let told = rw c.as_str.ensures.value at c.in-Ok.ensures.told in
    bytes_turn c.args.number (string_bytes c.args.name) (g.S.Store.held c.args.store.now) c.in-Ok.bytes.items c.types_in.result told c.in-Ok.ensures.within c.requires
    (subst (λ b. Reads b (string_bytes c.args.name) c.types_in.result) c.deref.ensures.value c.types_in.ensures)

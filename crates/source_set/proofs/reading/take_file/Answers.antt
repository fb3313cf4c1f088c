use Rattle.std.proofs.Common.{string_bytes, refl}
use Rattle.source_set.proofs.TurnLemmas.{any_turn, long_turn}
use Rattle.source_set.proofs.reading.take_file.Goals as goal

pub returns-in-Err-TooLong-clause-turn : goal.returns-in-Err-TooLong-clause-turn
returns-in-Err-TooLong-clause-turn g c =
    let told = rw (c.in-Err-TooLong.field-0-is, c.as_str.ensures.value) at c.in-Err-TooLong.ensures.told in
    long_turn (g.S.Store.held c.args.store.now) c.args.number c.args.limit c.in-Err-TooLong.field-0-0 c.args.name told

pub returns-in-Err-Fault-clause-turn : goal.returns-in-Err-Fault-clause-turn
returns-in-Err-Fault-clause-turn g c = any_turn (g.S.Store.held c.args.store.now) c.args.number c.args.limit (string_bytes c.args.name) _ (λ content. refl)

pub returns-in-Err-Memory-clause-turn : goal.returns-in-Err-Memory-clause-turn
returns-in-Err-Memory-clause-turn g c = any_turn (g.S.Store.held c.args.store.now) c.args.number c.args.limit (string_bytes c.args.name) _ (λ content. tt)

pub returns-in-Err-Memory-tree_of-clause-turn : goal.returns-in-Err-Memory-tree_of-clause-turn
returns-in-Err-Memory-tree_of-clause-turn g c = any_turn (g.S.Store.held c.args.store.now) c.args.number c.args.limit (string_bytes c.args.name) _ (λ content. tt)

use Rattle.image_set.proofs.TurnLemmas.{any_turn}
use Rattle.image_set.proofs.reading.next_image.Goals as goal

pub returns-in-Err-clause-turn : goal.returns-in-Err-clause-turn
returns-in-Err-clause-turn g c = any_turn c.args.number c.args.name.now (g.S.Store.held c.args.store.now) _ (λ content. tt)

use Rattle.std.proofs.Common.{string_bytes, refl, arith}
use Rattle.image_set.proofs.TurnLemmas.{any_turn}
use Rattle.image_set.proofs.reading.counted_image.Goals as goal

pub returns-then-number-ge-MOST_IMAGES-clause-turn : goal.returns-then-number-ge-MOST_IMAGES-clause-turn
returns-then-number-ge-MOST_IMAGES-clause-turn g c =
    any_turn c.args.number (string_bytes c.args.name) (g.S.Store.held c.args.store.now) _ (λ content. (refl, omega (arith, c.if-number-ge-MOST_IMAGES.true)))

use Rattle.winmd_write.proofs.ImageLaws.{all_ok, states}
use Rattle.winmd_write.proofs.image.image_of.Goals as goal

pub returns-clause-states : goal.returns-clause-states
returns-clause-states c w = all_ok c.image_with.result _ _ _ _ (λ bytes order few strict. states c.args.types.now bytes.items order few strict w) c.image_with.ensures.order c.image_with.ensures.few c.image_with.ensures.strict

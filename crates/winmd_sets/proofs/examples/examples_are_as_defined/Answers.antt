use Rattle.winmd_sets.proofs.FittingSets.{shop_fits, mix_fits}
use Rattle.winmd_sets.proofs.Worked as examples
use Rattle.winmd_sets.proofs.examples.examples_are_as_defined.Goals as goal

pub returns : goal.returns
returns c = record { shop_fits = shop_fits; mix_fits = mix_fits; shop_read = examples.shop_read; mix_read = examples.mix_read }

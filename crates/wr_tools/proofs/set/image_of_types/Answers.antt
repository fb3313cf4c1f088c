use Rattle.wr_tools.proofs.SetLemmas.{nothing_broken}
use Rattle.wr_tools.proofs.set.image_of_types.Goals as goal

pub returns-in_ok-image_told-in-None-clause-kept : goal.returns-in_ok-image_told-in-None-clause-kept
returns-in_ok-image_told-in-None-clause-kept c = nothing_broken c.args.full.now.types c.args.full.now.places c.in_ok-refusal.field-0 c.in-None.is c.in_ok-refusal.ensures

use Rattle.std.proofs.Common.{subst, ◌∙◌}
use Rattle.winmd_uses.specs.Orders.{Rises}
use Rattle.winmd_names.proofs.RefLaws.{texts_rise}
use Rattle.winmd_names.proofs.whole.named.Goals as goal

pub returns-clause-refs : goal.returns-clause-refs
returns-clause-refs c = c.in_ok-refs.ensures.refs ∙ c.names.ensures

pub returns-clause-ordered : goal.returns-clause-ordered
returns-clause-ordered c = subst Rises c.names.ensures (texts_rise c.names.result.now.keys c.in_ok-refs.ensures.ordered)

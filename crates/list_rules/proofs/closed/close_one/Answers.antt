use Rattle.std.proofs.Common.{subst}
use Rattle.chains.specs.Graphs.{In}
use Rattle.list_rules.proofs.closed.close_one.Goals as goal

pub leads_out-requires-clause-within : goal.leads_out-requires-clause-within
leads_out-requires-clause-within c = λ x h. c.requires.steps c.args.a x (subst (In x) c.row_at.ensures h)

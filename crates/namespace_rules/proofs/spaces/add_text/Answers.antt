use Rattle.std.proofs.Common.{List, ℕ, OnOk, subst}
use Rattle.namespace_rules.specs.Spaces.{AddsText}
use Rattle.namespace_rules.proofs.spaces.add_text.Goals as goal

pub returns : goal.returns
returns c = subst (λ (t : List ℕ). OnOk c.add_own.result (AddsText t c.args.set.now c.add_own.new.set)) c.in_ok-text.ensures.ok c.add_own.ensures

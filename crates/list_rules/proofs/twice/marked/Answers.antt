use Rattle.std.proofs.Common.{ℕ, List, subst, arith}
use Rattle.std.specs.BTreeSet.{contains_text}
use Rattle.std.proofs.lemmas.List.{take_all}
use Rattle.list_rules.specs.Open.{Marked}
use Rattle.list_rules.proofs.TwiceLaws.{marked_more}
use Rattle.list_rules.proofs.twice.marked.Goals as goal

pub loop-name-preserved : goal.loop-name-preserved
loop-name-preserved c = marked_more c.args.names.now c.loop-name.name-index c.name-item.result (contains_text c.loop-name.texts) (contains_text c.mark_name.new.texts) (omega arith) c.name-item.is c.loop-name.invariant c.in_ok-mark_name.ensures

pub returns : goal.returns
returns c = subst (λ (names : List (List ℕ)). Marked names (contains_text c.loop-name.texts)) (take_all c.loop-name.name-index c.args.names.now (omega arith)) c.loop-name.invariant

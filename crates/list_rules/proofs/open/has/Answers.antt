use Rattle.std.proofs.Common.{◌∷◌, [], take, get_or, refl, sym, subst, ⊎_elim, arith}
use Rattle.std.proofs.lemmas.List.{take_all, take_more}
use Rattle.chains.specs.Graphs.{In}
use Rattle.chains.proofs.Marking.{In-get_or}
use Rattle.chains.proofs.Members.{In-append}
use Rattle.list_rules.proofs.open.has.Goals as goal

pub returns-then-y-x : goal.returns-then-y-x
returns-then-y-x c = (λ t. subst (λ z. In z c.args.list.now) c.if-y-x.true (In-get_or c.args.list.now c.loop-y.y-index (omega arith)), λ i. refl)

pub loop-y-preserved : goal.loop-y-preserved
loop-y-preserved c = λ h. ⊎_elim (λ i. c.loop-y.invariant i) (λ i. ⊎_elim (λ q. c.if-y-x.false q) (λ z. z) i)
    (In-append c.args.x (take c.loop-y.y-index c.args.list.now) (get_or c.args.list.now c.loop-y.y-index 0 ∷ []) (subst (In c.args.x) (take_more c.args.list.now c.loop-y.y-index 0 (omega arith)) h))

pub returns : goal.returns
returns c = (λ t. cc, λ h. absurd (c.loop-y.invariant (subst (In c.args.x) (sym (take_all c.loop-y.y-index c.args.list.now (omega arith))) h)))

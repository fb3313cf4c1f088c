use Rattle.std.proofs.Common.{◌∷◌, [], sym, subst, set, true}
use Rattle.chains.specs.Closure.{Told, Met}
use Rattle.chains.proofs.ClosureLaws.{met_now, told_more, met_before}
use Rattle.chains.proofs.closure.meet.Goals as goal

pub returns-clause-told : goal.returns-clause-told
returns-clause-told c =
    subst (Told (set c.args.flags.now c.args.x true)) (sym c.in_ok-push.ensures.items)
    (told_more c.args.flags.now c.args.found.now.items c.args.x c.requires.within c.requires.told c.if-flags-x.false)

pub returns-clause-met : goal.returns-clause-met
returns-clause-met c = subst (Met (c.args.x ∷ []) c.args.found.now.items) (sym c.in_ok-push.ensures.items) (met_now c.args.found.now.items c.args.x)

pub returns-then-flags-x-clause-met : goal.returns-then-flags-x-clause-met
returns-then-flags-x-clause-met c = met_before c.args.flags.now c.args.found.now.items c.args.x c.requires.told c.if-flags-x.true

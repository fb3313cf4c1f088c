use Rattle.std.proofs.Common.{List, Bool, sym, subst, arith}
use Rattle.list_rules.specs.Open.{FlagsTo, clash_listed}
use Rattle.list_rules.proofs.TwiceLaws.{flags_none, clash_more, flags_all}
use Rattle.list_rules.proofs.twice.with_twice.Goals as goal

pub loop-i-init : goal.loop-i-init
loop-i-init c = subst (λ (on : List Bool). FlagsTo (clash_listed c.args.types.now) c.args.types.now 0 on) (sym c.new-on.ensures.items) (flags_none (clash_listed c.args.types.now) c.args.types.now)

pub loop-i-preserved : goal.loop-i-preserved
loop-i-preserved c =
    clash_more c.args.types.now c.loop-i.i c.at.result.now c.args.shared.now c.loop-i.on.items c.push.new.self.items c.flag_at-first.result c.in_ok-twice.twice c.either-told.result c.at.ensures.value c.requires c.flag_at-first.ensures
    (c.in_ok-twice.ensures c.args.types.now) c.either-told.ensures c.loop-i.invariant c.in_ok-push.ensures.items

pub returns : goal.returns
returns c = flags_all (clash_listed c.args.types.now) c.args.types.now c.loop-i.i c.loop-i.on.items c.loop-i.invariant (let l = c.len-i-end.ensures.len in omega (arith, l))

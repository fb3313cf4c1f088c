use Rattle.std.proofs.Common.{arith, map, ◌∙◌}
use Rattle.std.specs.declared.cmp.Ordering.TheVariants.{Less, Equal, Greater}
use Rattle.wr_base.specs.Declarations.{name_of}
use Rattle.winmd_uses.proofs.OrderLaws.{compared, here, high_less, low_more, none_left}
use Rattle.winmd_uses.proofs.declared.place_of.Goals as goal

pub loop-low-preserved-in-Less : goal.loop-low-preserved-in-Less
loop-low-preserved-in-Less c =
    (omega (arith, c.loop-low-test.true), c.loop-low.invariant.1, low_more c.args.types.now c.at.ensures.order.rises c.args.name.now _ c.at.result.now c.at.ensures.value (compared c.at.result.now c.as_str.result.now c.args.name.now Less c.cmp.result (c.as_str.ensures.value ∙ c.name.ensures) c.cmp.ensures c.in-Less.is), c.loop-low.invariant.3)

pub returns-in-Equal-clause-found : goal.returns-in-Equal-clause-found
returns-in-Equal-clause-found c = here c.args.types.now c.at.ensures.order.rises c.args.name.now _ c.at.result.now c.at.ensures.value (compared c.at.result.now c.as_str.result.now c.args.name.now Equal c.cmp.result (c.as_str.ensures.value ∙ c.name.ensures) c.cmp.ensures c.in-Equal.is)

pub loop-low-preserved : goal.loop-low-preserved
loop-low-preserved c =
    (omega arith, omega (arith, c.loop-low.invariant.1), c.loop-low.invariant.2, high_less c.args.types.now c.at.ensures.order.rises c.args.name.now _ c.at.result.now c.at.ensures.value (compared c.at.result.now c.as_str.result.now c.args.name.now Greater c.cmp.result (c.as_str.ensures.value ∙ c.name.ensures) c.cmp.ensures c.in-Greater.is))

pub returns-clause-absent : goal.returns-clause-absent
returns-clause-absent c = none_left c.args.name.now (map name_of c.args.types.now) c.loop-low.low c.loop-low.high (omega (arith, c.loop-low.invariant.0, c.loop-low-test.false)) c.loop-low.invariant.2 c.loop-low.invariant.3

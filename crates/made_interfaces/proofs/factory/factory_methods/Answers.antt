use Rattle.std.proofs.Common.{arith}
use Rattle.made_interfaces.proofs.Building.{methods_turn, methods_few}
use Rattle.made_interfaces.proofs.factory.factory_methods.Goals as goal

pub loop-constructor-preserved : goal.loop-constructor-preserved
loop-constructor-preserved c = record {
  methods = methods_turn c.args.class.now c.args.constructors.now c.loop-constructor.constructor-index c.constructor-item.result c.loop-constructor.methods.items c.push_method.new.methods.items
      (omega arith) c.constructor-item.is c.loop-constructor.invariant.methods c.in_ok-push_method.ensures;
  few = methods_few c.args.class.now c.constructor-item.result c.loop-constructor.methods.items c.push_method.new.methods.items c.loop-constructor.constructor-index c.loop-constructor.invariant.few c.in_ok-push_method.ensures;
}

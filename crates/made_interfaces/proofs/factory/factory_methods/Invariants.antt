use Rattle.std.proofs.Common.{◌≡◌, ◌≤◌, take, length}
use Rattle.std.specs.List.{filter}
use Rattle.made_interfaces.specs.Made.{factory_methods, takes_some}
use Rattle.made_interfaces.proofs.factory.factory_methods.Given as goal

abbrev pub invariant-loop-constructor : goal.invariant-loop-constructor
invariant-loop-constructor l = record {
  methods : l.methods.items ≡ factory_methods l.fn.class 0 (filter takes_some (take l.constructor-index l.constructors));
  few : length l.methods.items ≤ l.constructor-index;
}

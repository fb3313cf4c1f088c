use Rattle.std.proofs.Common.{arith, map}
use Rattle.std.specs.List.{flat_map}
use Rattle.std.specs.Option.{option_map}
use Rattle.wr_base.specs.declared.type_use.TypeUse.{TypeUse}
use Rattle.wr_base.specs.Trees.{tree_of}
use Rattle.winmd_sets.specs.Declared.{class_interface}
use Rattle.winmd_uses.proofs.KindLaws.{class_interfaces_say}
use Rattle.winmd_uses.specs.Takes.{lines_say}
use Rattle.winmd_uses.proofs.TakeLaws.{takes_all, takes_turn}
use Rattle.winmd_uses.proofs.used.Used.take_class_interfaces.Goals as goal

pub loop-ty-preserved : goal.loop-ty-preserved
loop-ty-preserved c = takes_turn (λ (u : TypeUse). lines_say (class_interface (option_map tree_of c.args.default.now) (tree_of u))) c.args.uses.now c.loop-ty.ty-index c.ty-item.result c.args.self.now c.loop-ty.self c.take_class_interface.new.self (omega arith) c.ty-item.is c.loop-ty.invariant c.in_ok-take_class_interface.ensures

pub returns : goal.returns
returns c = takes_all (λ (u : TypeUse). lines_say (class_interface (option_map tree_of c.args.default.now) (tree_of u))) c.args.uses.now c.loop-ty.ty-index (lines_say (flat_map (class_interface (option_map tree_of c.args.default.now)) (map tree_of c.args.uses.now))) c.args.self.now c.loop-ty.self (omega arith) (class_interfaces_say (option_map tree_of c.args.default.now) c.args.uses.now) c.loop-ty.invariant

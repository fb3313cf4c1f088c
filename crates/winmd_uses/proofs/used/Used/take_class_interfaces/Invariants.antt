use Rattle.std.proofs.Common.{take}
use Rattle.std.specs.Option.{option_map}
use Rattle.wr_base.specs.declared.type_use.TypeUse.{TypeUse}
use Rattle.wr_base.specs.Trees.{tree_of}
use Rattle.winmd_sets.specs.Declared.{class_interface}
use Rattle.winmd_uses.specs.Takes.{Takes, lines_say}
use Rattle.winmd_uses.proofs.TakeLaws.{each}
use Rattle.winmd_uses.proofs.used.Used.take_class_interfaces.Given as goal

abbrev pub invariant-loop-ty : goal.invariant-loop-ty
invariant-loop-ty l = Takes (each (λ (u : TypeUse). lines_say (class_interface (option_map tree_of l.default) (tree_of u))) (take l.ty-index l.uses)) l.initial.self l.self

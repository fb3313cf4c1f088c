use Rattle.std.proofs.Common.{take}
use Rattle.wr_base.specs.declared.type_use.TypeUse.{TypeUse}
use Rattle.wr_base.specs.Trees.{tree_of}
use Rattle.winmd_lines.specs.Lines.{Type_}
use Rattle.winmd_uses.specs.Takes.{Takes, cell_says}
use Rattle.winmd_uses.proofs.TakeLaws.{each}
use Rattle.winmd_uses.proofs.used.Used.take_interfaces.Given as goal

abbrev pub invariant-loop-ty : goal.invariant-loop-ty
invariant-loop-ty l = Takes (each (λ (u : TypeUse). cell_says (Type_ (tree_of u))) (take l.ty-index l.uses)) l.initial.self l.self

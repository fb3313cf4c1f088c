use Rattle.std.proofs.Common.{take}
use Rattle.wr_base.specs.declared.type_use.TypeUse.{TypeUse}
use Rattle.wr_base.specs.Trees.{tree_of}
use Rattle.winmd_lines.specs.UsedNames.{names_in_use}
use Rattle.winmd_uses.specs.Takes.{Takes, names_alone}
use Rattle.winmd_uses.proofs.TakeLaws.{each}
use Rattle.winmd_uses.proofs.used.Used.+take_use.Given as goal

abbrev pub invariant-loop-argument : goal.invariant-loop-argument
invariant-loop-argument l = Takes (each (λ (u : TypeUse). names_alone (names_in_use (tree_of u))) (take l.argument-index l.list)) l.initial.self l.self

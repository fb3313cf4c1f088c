use Rattle.std.proofs.Common.{take}
use Rattle.wr_base.specs.declared.declaration.Declaration.{Declaration}
use Rattle.wr_base.specs.Trees.{decl_tree}
use Rattle.winmd_sets.specs.Declared.{lines_of}
use Rattle.winmd_uses.specs.Takes.{Takes, lines_say}
use Rattle.winmd_uses.proofs.TakeLaws.{each}
use Rattle.winmd_uses.proofs.declarations.take_declarations.Given as goal

abbrev pub invariant-loop-i : goal.invariant-loop-i
invariant-loop-i l = Takes (each (λ (d : Declaration). lines_say (lines_of (decl_tree d))) (take l.i l.types)) l.initial.used l.used

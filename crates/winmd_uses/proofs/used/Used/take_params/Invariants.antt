use Rattle.std.proofs.Common.{take}
use Rattle.wr_base.specs.declared.declaration.Param.{Param}
use Rattle.wr_base.specs.Trees.{tree_of}
use Rattle.winmd_lines.specs.UsedNames.{names_in_use}
use Rattle.winmd_uses.specs.Takes.{Takes, names_alone}
use Rattle.winmd_uses.proofs.TakeLaws.{each}
use Rattle.winmd_uses.proofs.used.Used.take_params.Given as goal

abbrev pub invariant-loop-param : goal.invariant-loop-param
invariant-loop-param l = Takes (each (λ (p : Param). names_alone (names_in_use (tree_of p.ty))) (take l.param-index l.params)) l.initial.self l.self

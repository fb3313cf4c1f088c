use Rattle.std.proofs.Common.{take}
use Rattle.wr_base.specs.declared.declaration.Field.{Field}
use Rattle.wr_base.specs.Trees.{tree_of}
use Rattle.winmd_lines.specs.UsedNames.{names_in_use}
use Rattle.winmd_uses.specs.Takes.{Takes, names_alone}
use Rattle.winmd_uses.proofs.TakeLaws.{each}
use Rattle.winmd_uses.proofs.used.Used.take_fields.Given as goal

abbrev pub invariant-loop-field : goal.invariant-loop-field
invariant-loop-field l = Takes (each (λ (f : Field). names_alone (names_in_use (tree_of f.ty))) (take l.field-index l.fields)) l.initial.self l.self

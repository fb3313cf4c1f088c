use Rattle.std.proofs.Common.{take}
use Rattle.std.specs.List.{flat_map}
use Rattle.std.specs.HashMap.{get_by_text}
use Rattle.wr_base.specs.declared.type_use.TypeUse.{TypeUse}
use Rattle.wr_base.specs.Trees.{tree_of}
use Rattle.id_rules.specs.Table.{Adds, instances_within}
use Rattle.id_rules.proofs.instances.+add_use.Given as goal

abbrev pub invariant-loop-argument : goal.invariant-loop-argument
invariant-loop-argument l = Adds l.types (flat_map (λ (a : TypeUse). instances_within (tree_of a)) (take l.argument-index l.argument-items)) (get_by_text l.initial.table) (get_by_text l.table)

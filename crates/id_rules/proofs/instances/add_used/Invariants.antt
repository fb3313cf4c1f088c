use Rattle.std.proofs.Common.{take}
use Rattle.std.specs.List.{flat_map}
use Rattle.std.specs.HashMap.{get_by_text}
use Rattle.site_uses.specs.declared.used.Used.{Used}
use Rattle.site_uses.specs.Views.{shape_view}
use Rattle.id_rules.specs.Table.{Adds, instances_within}
use Rattle.id_rules.proofs.instances.add_used.Given as goal

abbrev pub invariant-loop-one : goal.invariant-loop-one
invariant-loop-one l = Adds l.types (flat_map (λ (u : Used). instances_within (shape_view u.shape)) (take l.one-index l.used)) (get_by_text l.initial.table) (get_by_text l.table)

use Rattle.std.proofs.Common.{take}
use Rattle.std.specs.HashMap.{get_by_text}
use Rattle.wr_rules.specs.Sites.{sites_of}
use Rattle.wr_rules.specs.NameRules.{instances_in}
use Rattle.id_rules.specs.Table.{Adds}
use Rattle.id_rules.proofs.instances.instance_ids.Given as goal

abbrev pub invariant-loop-i : goal.invariant-loop-i
invariant-loop-i l = Adds l.types.types (instances_in (take l.i (sites_of l.types.types l.types.places))) (get_by_text l.initial.table) (get_by_text l.table)

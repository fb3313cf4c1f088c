use Rattle.std.proofs.Common.{◌≡◌, take}
use Rattle.std.specs.List.{flat_map}
use Rattle.wr_rules.specs.Sites.{sites_of}
use Rattle.wr_rules.specs.FactoryRules.{factories_of, members_named}
use Rattle.factory_rules.proofs.members.factory_members.Given as goal

abbrev pub invariant-loop-name : goal.invariant-loop-name
invariant-loop-name l = l.list.items ≡ flat_map (members_named (sites_of l.types.types l.types.places)) (take l.name-index (factories_of l.site.declaration.now))

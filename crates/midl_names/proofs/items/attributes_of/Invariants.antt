use Rattle.std.proofs.Common.{◌≡◌, map, take}
use Rattle.std.specs.List.{flat_map}
use Rattle.midl_tree.specs.Views.{attribute_view}
use Rattle.midl_names.specs.Views.{attributes_of}
use Rattle.midl_names.proofs.items.attributes_of.Given as goal

abbrev pub invariant-loop-group : goal.invariant-loop-group
invariant-loop-group l = attributes_of l.attributes.items ≡ flat_map (λ g. g) (map (λ g. map attribute_view g.items) (take l.group-index l.groups))

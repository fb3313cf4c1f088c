use Rattle.std.proofs.Common.{◌≡◌, ◌++◌, map, take}
use Rattle.midl_tree.specs.Views.{attribute_view}
use Rattle.midl_names.specs.Views.{attributes_of}
use Rattle.midl_names.proofs.items.push_attributes.Given as goal

abbrev pub invariant-loop-attribute : goal.invariant-loop-attribute
invariant-loop-attribute l = attributes_of l.into.items ≡ attributes_of l.fn.into.items ++ map attribute_view (take l.attribute-index l.group)

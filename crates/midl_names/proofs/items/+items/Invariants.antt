use Rattle.std.proofs.Common.{◌≡◌, ◌++◌, take, map}
use Rattle.std.specs.List.{flat_map}
use Rattle.midl_tree.specs.Views.{item_view}
use Rattle.midl_names.specs.Items.{items_in}
use Rattle.midl_names.specs.Views.{item_of, parts_of}
use Rattle.midl_names.proofs.items.+items.Given as goal

abbrev pub invariant-push_items-loop-node : goal.invariant-push_items-loop-node
invariant-push_items-loop-node l = map item_of l.into.items ≡ map item_of l.fn.into.items ++ flat_map (items_in l.fn.file (parts_of l.fn.around)) (map item_view (take l.node-index l.nodes))

use Rattle.std.proofs.Common.{◌≡◌, map, take}
use Rattle.std.specs.HashMap.{get_by_text}
use Rattle.std.specs.List.{All, flat_map}
use Rattle.midl_tree.specs.Views.{class_member_view}
use Rattle.midl_names.specs.Declares.{constructors_of}
use Rattle.midl_names.specs.Views.{parts_of}
use Rattle.placed_items.specs.Named.{HasNamedParams}
use Rattle.midl_names.proofs.written.constructors_of.Given as goal

abbrev pub invariant-loop-node : goal.invariant-loop-node
invariant-loop-node l = record {
  so_far : l.signatures.items ≡ flat_map (constructors_of (get_by_text l.fn.scope.index.now.sorts) (parts_of l.fn.scope.item.now.space.items)) (map class_member_view (take l.node-index l.nodes));
  named : All HasNamedParams l.signatures.items;
}

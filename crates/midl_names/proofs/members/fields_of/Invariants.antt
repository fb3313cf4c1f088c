use Rattle.std.proofs.Common.{◌≡◌, map, take}
use Rattle.std.specs.HashMap.{get_by_text}
use Rattle.std.specs.List.{All, flat_map}
use Rattle.midl_tree.specs.Views.{fields_view}
use Rattle.midl_names.specs.Members.{fields_of}
use Rattle.midl_names.specs.Views.{parts_of}
use Rattle.wr_base.specs.declared.declaration.Field.{Field}
use Rattle.placed_items.specs.Named.{IsName}
use Rattle.midl_names.proofs.members.fields_of.Given as goal

abbrev pub invariant-loop-node : goal.invariant-loop-node
invariant-loop-node l = record {
  so_far : l.fields.items ≡ flat_map (fields_of (get_by_text l.fn.scope.index.now.sorts) (parts_of l.fn.scope.item.now.space.items)) (map fields_view (take l.node-index l.nodes));
  named : All (λ (f : Field). IsName f.name) l.fields.items;
}

use Rattle.std.proofs.Common.{◌≡◌, ◌++◌, map, take}
use Rattle.std.specs.HashMap.{get_by_text}
use Rattle.std.specs.List.{All}
use Rattle.midl_tree.specs.Views.{type_view}
use Rattle.midl_names.specs.Resolved.{resolved}
use Rattle.midl_names.specs.Views.{parts_of}
use Rattle.wr_base.specs.declared.declaration.Field.{Field}
use Rattle.placed_items.specs.Named.{IsName}
use Rattle.midl_names.proofs.members.push_fields.Given as goal

abbrev pub invariant-loop-name : goal.invariant-loop-name
invariant-loop-name l = record {
  so_far : l.into.items ≡ l.fn.into.items ++ map (λ n. record { name = n.text; ty = resolved (get_by_text l.fn.scope.index.now.sorts) (parts_of l.fn.scope.item.now.space.items) (type_view l.fn.node.kind) }) (take l.name-index l.name-items);
  named : All (λ (f : Field). IsName f.name) l.fn.into.items → All (λ (f : Field). IsName f.name) l.into.items;
}

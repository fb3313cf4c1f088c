use Rattle.std.proofs.Common.{◌≡◌, map, take}
use Rattle.std.specs.HashMap.{get_by_text}
use Rattle.std.specs.List.{All}
use Rattle.midl_tree.specs.Views.{param_view}
use Rattle.midl_names.specs.Resolved.{param_of}
use Rattle.midl_names.specs.Views.{parts_of}
use Rattle.wr_base.specs.declared.declaration.Param.{Param}
use Rattle.placed_items.specs.Named.{IsName}
use Rattle.midl_names.proofs.resolved.params_of.Given as goal

abbrev pub invariant-loop-node : goal.invariant-loop-node
invariant-loop-node l = record {
  so_far : l.params.items ≡ map (param_of (get_by_text l.fn.scope.index.now.sorts) (parts_of l.fn.scope.item.now.space.items)) (map param_view (take l.node-index l.nodes));
  named : All (λ (p : Param). IsName p.name) l.params.items;
}

use Rattle.std.proofs.Common.{◌≡◌, map, take}
use Rattle.std.specs.HashMap.{get_by_text}
use Rattle.midl_tree.specs.Views.{type_view}
use Rattle.midl_names.specs.Resolved.{resolved}
use Rattle.midl_names.specs.Views.{parts_of}
use Rattle.midl_names.proofs.resolved.+resolved.Given as goal

abbrev pub invariant-loop-argument : goal.invariant-loop-argument
invariant-loop-argument l = l.uses ≡ map (resolved (get_by_text l.fn.scope.index.now.sorts) (parts_of l.fn.scope.item.now.space.items)) (map type_view (take l.argument-index l.argument-items))

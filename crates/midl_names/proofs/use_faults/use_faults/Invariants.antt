use Rattle.ranked.specs.First.{IsFirst, Below, At}
use Rattle.midl_names.specs.Faults.{Gives}
use Rattle.midl_names.specs.Views.{item_of}
use Rattle.std.specs.HashMap.{get_by_text}
use Rattle.midl_tree.specs.Views.{type_view}
use Rattle.midl_names.specs.Uses.{use_fault}
use Rattle.midl_names.proofs.use_faults.use_faults.Given as goal

abbrev pub invariant-loop-node : goal.invariant-loop-node
invariant-loop-node l = IsFirst (Below l.node-index (At l.node-items (λ x. Gives (use_fault (get_by_text l.fn.index.sorts) (item_of l.fn.item) (type_view x.now))))) l.first

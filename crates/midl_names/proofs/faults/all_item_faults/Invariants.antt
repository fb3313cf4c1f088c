use Rattle.std.specs.HashMap.{get_by_text}
use Rattle.ranked.specs.First.{IsFirst, Below, At}
use Rattle.midl_names.specs.Names.{ItemFaults}
use Rattle.midl_names.specs.Views.{item_of}
use Rattle.midl_names.proofs.faults.all_item_faults.Given as goal

abbrev pub invariant-loop-item : goal.invariant-loop-item
invariant-loop-item l = IsFirst (Below l.item-index (At l.items (λ x. ItemFaults (get_by_text l.index.sorts) (item_of x)))) l.first

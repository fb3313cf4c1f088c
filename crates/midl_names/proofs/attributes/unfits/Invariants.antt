use Rattle.ranked.specs.First.{IsFirst, Below, At}
use Rattle.midl_names.specs.Faults.{Gives}
use Rattle.midl_names.specs.Views.{item_of}
use Rattle.midl_tree.specs.Views.{attribute_view}
use Rattle.midl_names.specs.Attributes.{unfit}
use Rattle.midl_names.proofs.attributes.unfits.Given as goal

abbrev pub invariant-loop-attribute : goal.invariant-loop-attribute
invariant-loop-attribute l = IsFirst (Below l.attribute-index (At l.attribute-items (λ x. Gives (unfit (item_of l.fn.item) (attribute_view x.now))))) l.first

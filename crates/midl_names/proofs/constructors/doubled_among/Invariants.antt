use Rattle.ranked.specs.First.{IsFirst, Below, At}
use Rattle.midl_names.specs.Faults.{Gives}
use Rattle.midl_names.specs.Views.{item_of}
use Rattle.midl_tree.specs.Views.{class_member_view}
use Rattle.midl_names.specs.Constructors.{doubled}
use Rattle.midl_names.proofs.constructors.doubled_among.Given as goal

abbrev pub invariant-loop-member : goal.invariant-loop-member
invariant-loop-member l = IsFirst (Below l.member-index (At l.members (λ x. Gives (doubled (item_of l.fn.item) (class_member_view x.now))))) l.first

use Rattle.std.proofs.Common.{◌↔◌, IsTrue, ℕ, List}
use Rattle.std.specs.BTreeSet.{contains_text}
use Rattle.ranked.specs.First.{IsFirst, Below}
use Rattle.ranked.specs.Repeats.{StandsBefore, RepeatAt}
use Rattle.midl_names.specs.Views.{item_of}
use Rattle.midl_tree.specs.Views.{attribute_view}
use Rattle.midl_names.specs.Attributes.{called, attribute_entry}
use Rattle.midl_names.proofs.attributes.repeated.Given as goal

abbrev pub invariant-loop-attribute : goal.invariant-loop-attribute
invariant-loop-attribute l = record {
  first : IsFirst (Below l.attribute-index (RepeatAt (λ x. called (attribute_view x.now)) (λ x. attribute_entry (item_of l.fn.item) (attribute_view x.now)) l.attribute-items)) l.first;
  told : (name : List ℕ) → IsTrue (contains_text l.seen name) ↔ StandsBefore (λ x. called (attribute_view x.now)) l.attribute-items l.attribute-index name;
}

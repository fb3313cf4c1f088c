use Rattle.std.proofs.Common.{◌↔◌, IsTrue, ℕ, List}
use Rattle.std.specs.HashSet.{contains_text}
use Rattle.ranked.specs.First.{IsFirst, Below}
use Rattle.ranked.specs.Repeats.{StandsBefore, RepeatAt}
use Rattle.midl_names.specs.Views.{item_of}
use Rattle.midl_names.specs.Duplicates.{lower_name, duplicate_entry}
use Rattle.midl_names.proofs.duplicates.repeated_names.Given as goal

abbrev pub invariant-loop-item : goal.invariant-loop-item
invariant-loop-item l = record {
  first : IsFirst (Below l.item-index (RepeatAt (λ x. lower_name (item_of x)) (λ x. duplicate_entry (item_of x)) l.items)) l.first;
  told : (name : List ℕ) → IsTrue (contains_text l.seen name) ↔ StandsBefore (λ x. lower_name (item_of x)) l.items l.item-index name;
}

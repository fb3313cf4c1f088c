use Rattle.std.proofs.Common.{◌≡◌, ◌≤◌, ℕ, List, map, drop, length}
use Rattle.std.specs.HashMap.{get_by_text}
use Rattle.midl_names.specs.Counts.{count_at}
use Rattle.midl_names.specs.Lookup.{declared_sort}
use Rattle.midl_names.specs.Within.{IsWithin}
use Rattle.midl_names.specs.Views.{item_of}
use Rattle.midl_names.proofs.index.index_of.Given as goal

abbrev pub invariant-more : goal.invariant-more
invariant-more l = record {
  short : l.left ≤ length l.items;
  within : IsWithin (get_by_text l.sorts) (count_at l.longest);
  told : (name : List ℕ) → get_by_text l.sorts name ≡ declared_sort (map item_of (drop l.left l.items)) name;
}

abbrev pub decreases-more : goal.decreases-more
decreases-more l = l.left

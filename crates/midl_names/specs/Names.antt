-- What is broken in the phase of names.
use Rattle.std.specs.Prelude.{ℕ, List, Option, drop}
use Rattle.std.specs.List.{filter}
use Rattle.ranked.specs.Entries.{Entry}
use Rattle.ranked.specs.First.{Or, Among}
use Rattle.ranked.specs.Repeats.{Repeated}
use Rattle.midl_names.specs.declared.sort.Sort.{Sort}
use Rattle.midl_names.specs.Items.{Item, Source, items_of}
use Rattle.midl_names.specs.Lookup.{declared_sort}
use Rattle.midl_names.specs.Faults.{Gives}
use Rattle.midl_names.specs.Attributes.{IsBadAttribute, called, attribute_entry, unfit}
use Rattle.midl_names.specs.Constructors.{IsMisnamed, IsDoubled, class_members, is_plain, misnamed, doubled}
use Rattle.midl_names.specs.Duplicates.{IsDuplicate, lower_name, duplicate_entry, found_again}
use Rattle.midl_names.specs.Uses.{IsUnknown, IsMiscounted, uses_of, use_fault}

-- broken by one of the six rules
abbrev pub Broken : List Item → Entry → Type 0
Broken items = Or (IsBadAttribute items) (Or (IsMisnamed items) (Or (IsDoubled items) (Or (IsDuplicate items) (Or (IsUnknown (declared_sort items) items) (IsMiscounted (declared_sort items) items)))))

abbrev pub Names : List Source → Entry → Type 0
Names sources = Broken (items_of sources)

-- what is broken at an item's full name or at its uses
abbrev pub NameFaults : (List ℕ → Option Sort) → Item → Entry → Type 0
NameFaults known i = Or (Gives (found_again i)) (Among (uses_of i.tree) (λ u. Gives (use_fault known i u)))

-- the same, and constructors without parameters that stand again
abbrev pub DoubledFaults : (List ℕ → Option Sort) → Item → Entry → Type 0
DoubledFaults known i = Or (Among (drop 1 (filter is_plain (class_members i.tree))) (λ m. Gives (doubled i m))) (NameFaults known i)

-- the same, and misnamed constructors
abbrev pub WrittenFaults : (List ℕ → Option Sort) → Item → Entry → Type 0
WrittenFaults known i = Or (Among (class_members i.tree) (λ m. Gives (misnamed i m))) (DoubledFaults known i)

-- the same, and attributes that don't fit
abbrev pub UnfitFaults : (List ℕ → Option Sort) → Item → Entry → Type 0
UnfitFaults known i = Or (Among i.attributes (λ a. Gives (unfit i a))) (WrittenFaults known i)

-- the same item by item: what is broken at one, apart from names that repeat
abbrev pub ItemFaults : (List ℕ → Option Sort) → Item → Entry → Type 0
ItemFaults known i = Or (Repeated called (attribute_entry i) i.attributes) (UnfitFaults known i)

abbrev pub ByItem : (List ℕ → Option Sort) → List Item → Entry → Type 0
ByItem known items = Or (Repeated lower_name duplicate_entry items) (Among items (ItemFaults known))

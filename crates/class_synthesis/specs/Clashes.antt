-- Names of made interfaces that are taken (C++/WinRT and MIDL 3.0 reference, Classes).
use Rattle.std.specs.Prelude.{◌≡◌, ◌<◌, ◌⊎◌, ℕ, Bool, List, Some, IsTrue, map, length, slice_get}
use Rattle.std.specs.List.{list_any}
use Rattle.ranked.specs.Entries.{Entry}
use Rattle.ranked.specs.declared.place.Place.{Place}
use Rattle.ranked.specs.First.{Below, At, Among, Only}
use Rattle.wr_base.specs.Codes.{rank_of}
use Rattle.wr_base.specs.declared.code.Code.TheVariants.{SynthesisClash}
use Rattle.found_table.specs.Table.{table, name_of as found_name}
use Rattle.wr_rules.specs.NameRules.{same_lower}
use Rattle.placed_items.specs.declared.placed.PlacedItem.{PlacedItem}
use Rattle.placed_items.specs.Items.{written_names}
use Rattle.made_interfaces.specs.Made.{made_by}

-- the name stands in the list, but for ASCII case
abbrev pub has_lower : List (List ℕ) → List ℕ → Bool
has_lower names name = list_any (λ n. same_lower n name) names

-- an earlier class makes this name too
pub record MadeBefore (items : List PlacedItem) (k : ℕ) (name : List ℕ) : Type 0 where
  pub j : ℕ
  pub earlier : PlacedItem
  pub at : slice_get items j ≡ Some earlier
  pub before : j < k
  pub same : IsTrue (has_lower (made_by earlier.item) name)

-- a written type, a found one or an interface of an earlier class has this name, which the item at k makes
abbrev pub IsTaken : List PlacedItem → ℕ → List ℕ → Type 0
IsTaken items k name = IsTrue (has_lower (written_names items) name) ⊎ IsTrue (has_lower (map found_name table) name) ⊎ MadeBefore items k name

-- at the class's name, with the made name as word
abbrev pub clash_entry : Place → List ℕ → Entry
clash_entry at name = record { file = at.file; offset = at.offset; code = rank_of SynthesisClash; word = name }

-- the item at k makes a name that is taken; of two classes that make it the later clashes
abbrev pub ClashesAt : List PlacedItem → ℕ → Entry → Type 0
ClashesAt items k = At items (λ i. Among (made_by i.item) (λ name. Only (IsTaken items k name) (clash_entry i.places.at name))) k

abbrev pub IsClash : List PlacedItem → Entry → Type 0
IsClash items = Below (length items) (ClashesAt items)

-- Sets of texts in lower case, by which taken names are found.
use Rattle.std.specs.Prelude.{◌≡◌, ◌||◌, ◌++◌, ℕ, Bool, List, String, take}
use Rattle.std.specs.List.{flat_map, list_any}
use Rattle.std.specs.Str.{bytes_eq}
use Rattle.std.specs.HashSet.{HashSet, contains_text}
use Rattle.std.specs.declared.alloc.Global.{Global}
use Rattle.wr_base.specs.Lower.{lower}
use Rattle.found_table.specs.Table.{is_found}
use Rattle.placed_items.specs.declared.placed.PlacedItem.{PlacedItem}
use Rattle.placed_items.specs.Items.{written_names}
use Rattle.made_interfaces.specs.Made.{made_by}

-- one of the names has this text in lower case
abbrev pub has_text : List (List ℕ) → List ℕ → Bool
has_text names text = list_any (λ n. bytes_eq (lower n) text) names

-- the set has the texts of these names in lower case
abbrev pub Holds : {S : Type 0} → HashSet (String Global) S → List (List ℕ) → Type 0
Holds set names = (text : List ℕ) → contains_text set text ≡ has_text names text

-- these names came to the set
abbrev pub Adds : {S : Type 0} → List (List ℕ) → HashSet (String Global) S → HashSet (String Global) S → Type 0
Adds names old new = (text : List ℕ) → contains_text new text ≡ (has_text names text || contains_text old text)

-- the set has the name, or a found type does
abbrev pub is_taken : {S : Type 0} → HashSet (String Global) S → List ℕ → Bool
is_taken set name = contains_text set (lower name) || is_found name

-- the names that the item at k may not make: all that are declared, and those that earlier items make
abbrev pub names_before : List PlacedItem → ℕ → List (List ℕ)
names_before items k = written_names items ++ flat_map (λ (i : PlacedItem). made_by i.item) (take k items)

-- What stands in a set of items, each at its place (MIDL 3.0 reference).
use Rattle.std.specs.Prelude.{◌≡◌, ◌+◌, ℕ, List, Some, map, length, slice_get}
use Rattle.std.specs.List.{All}
use Rattle.wr_base.specs.Declarations.{name_of}
use Rattle.wr_base.specs.Places.{part_count}
use Rattle.placed_items.specs.declared.placed.Written.{Written}
use Rattle.placed_items.specs.declared.placed.Written.TheVariants.{Done, Class}
use Rattle.placed_items.specs.declared.placed.PlacedItem.{PlacedItem}

-- the full name that is declared
abbrev pub written_name : Written → List ℕ
written_name (Done d) = name_of d
written_name (Class c) = c.name

-- the full names of all items, in their order
abbrev pub written_names : List PlacedItem → List (List ℕ)
written_names = map (λ (i : PlacedItem). written_name i.item)

-- how many parts it has: cases, fields or members; of a class its members, statics and constructors
abbrev pub parts_in : Written → ℕ
parts_in (Done d) = part_count d
parts_in (Class c) = length c.members + length c.statics + length c.constructors

-- each item has a place for each of its parts
abbrev pub HasPlaces : List PlacedItem → Type 0
HasPlaces = All (λ (i : PlacedItem). length i.places.parts ≡ parts_in i.item)

-- one full name stands at one item alone
abbrev pub NamesApart : List PlacedItem → Type 0
NamesApart items = (j k : ℕ) → (name : List ℕ) → slice_get (written_names items) j ≡ Some name → slice_get (written_names items) k ≡ Some name → j ≡ k

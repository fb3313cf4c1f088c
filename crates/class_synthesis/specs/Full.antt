-- The full types of a set: with the interfaces that are made of classes, ids, and closed lists.
use Rattle.std.specs.Prelude.{◌≡◌, List, map, length}
use Rattle.std.specs.List.{AllZip}
use Rattle.std.specs.List.Sorted.{IsPermutation}
use Rattle.wr_base.specs.Declarations.{IsInOrder}
use Rattle.wr_base.specs.Normal.{normal}
use Rattle.wr_base.specs.declared.declaration.Declaration.{Declaration}
use Rattle.wr_base.specs.declared.places.DeclPlaces.{DeclPlaces}
use Rattle.wr_rules.specs.Sites.{Site, sites_of}
use Rattle.placed_items.specs.declared.placed.PlacedItem.{PlacedItem}
use Rattle.closed_lists.specs.Closures.{IsClosing}
use Rattle.made_interfaces.specs.Made.{raw}

-- with its lists in the order of texts, each text once
abbrev pub in_order : Site → Site
in_order s = record { decl = normal s.decl; places = s.places }

-- these types are the declarations with their lists closed, in the order of names, each with its places
pub record IsFull (items : List PlacedItem) (types : List Declaration) (places : List DeclPlaces) : Type 0 where
  pub closed : List Site
  pub each : AllZip (IsClosing (map (λ s. s.decl) (raw items))) (raw items) closed
  pub sites : IsPermutation (map in_order closed) (sites_of types places)
  pub size : length places ≡ length types
  pub order : IsInOrder types

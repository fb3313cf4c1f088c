-- Declarations in the order of full names, each with its places.
use Rattle.std.specs.Prelude.{◌≡◌, ℕ, List, map, length}
use Rattle.std.specs.List.Sorted.{IsPermutation}
use Rattle.wr_base.specs.Declarations.{name_of, IsInOrder}
use Rattle.wr_base.specs.declared.places.DeclPlaces.{DeclPlaces}
use Rattle.wr_base.specs.declared.places.PlacedTypes.{PlacedTypes}
use Rattle.wr_rules.specs.Sites.{Site, sites_of}
use Rattle.closed_lists.specs.declared.site.PlacedDeclaration.{PlacedDeclaration}
use Rattle.class_synthesis.specs.Full.{in_order}

-- its full name
abbrev pub placed_name : PlacedDeclaration → List ℕ
placed_name p = name_of p.declaration

-- their places
abbrev pub places_in : List PlacedDeclaration → List DeclPlaces
places_in list = map (λ p. p.places) list

-- the types are the declarations with their lists in order, and the places are theirs
pub record IsOrdered (from : List Site) (typed : PlacedTypes) : Type 0 where
  pub sites : IsPermutation (map in_order from) (sites_of typed.types typed.places)
  pub size : length typed.places ≡ length typed.types
  pub order : IsInOrder typed.types

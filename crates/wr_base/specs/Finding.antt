-- Tables of places, by which names are found.
use Rattle.std.specs.Prelude.{◌≡◌, ℕ, List, Option, Some, None, map, slice_get}
use Rattle.wr_base.specs.Declarations.{name_of, IsInOrder}
use Rattle.wr_base.specs.declared.declaration.Declaration.{Declaration}

-- a table tells a place of each of the names, and of nothing else
pub record Finds (names : List (List ℕ)) (place_of : List ℕ → Option ℕ) : Type 0 where
  pub found : (name : List ℕ) (k : ℕ) → place_of name ≡ Some k → slice_get names k ≡ Some name
  pub absent : (name : List ℕ) (k : ℕ) → place_of name ≡ None → ¬ (slice_get names k ≡ Some name)

-- declarations in the order of their names, and a table of their places
pub record IsTable (types : List Declaration) (place_of : List ℕ → Option ℕ) : Type 0 where
  pub order : IsInOrder types
  pub finds : Finds (map name_of types) place_of

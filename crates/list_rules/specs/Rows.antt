-- What numbered texts require, as rows of numbers.
use Rattle.std.specs.Prelude.{◌≡◌, ◌<◌, ◌≤◌, ℕ, List, [], Some, length, slice_get}
use Rattle.chains.specs.Graphs.{steps_of}
use Rattle.wr_base.specs.declared.declaration.Declaration.{Declaration}
use Rattle.wr_base.specs.declared.declaration.Declaration.TheVariants.{Enum, Struct, Delegate, Interface, Class}

-- an interface requires what it lists, and others require nothing
abbrev pub row_of : Declaration → List ℕ → List ℕ
row_of (Interface name version id owner requires_ members) set = set
row_of (Enum name version flags cases) set = []
row_of (Struct name version fields) set = []
row_of (Delegate name version id invoke) set = []
row_of (Class name version fixed default has direct factories statics) set = []

-- the rows of the first so many declarations
pub record AreRows (types : List Declaration) (sets : List (List ℕ)) (i : ℕ) (rows : List (List ℕ)) : Type 0 where
  pub size : length rows ≡ i
  pub rows_ : (k : ℕ) (d : Declaration) → k < i → slice_get types k ≡ Some d → steps_of rows k ≡ row_of d (steps_of sets k)

-- the rows of all declarations, and behind them empty ones, so many in all
pub record IsGraph (types : List Declaration) (sets : List (List ℕ)) (count : ℕ) (graph : List (List ℕ)) : Type 0 where
  pub size : length graph ≡ count
  pub rows_ : (k : ℕ) (d : Declaration) → slice_get types k ≡ Some d → steps_of graph k ≡ row_of d (steps_of sets k)
  pub past : (k : ℕ) → length types ≤ k → steps_of graph k ≡ []

-- Tables as lists of rows, and rows as lists of numbers.
use Rattle.std.specs.Prelude.{ℕ, List, map, Vec}
use Rattle.arrayvec.specs.ArrayVec.{ArrayVec}
use Rattle.std.specs.declared.alloc.Global.{Global}

abbrev pub cells_in : List (ArrayVec ℕ) → List (List ℕ)
cells_in rows = map (λ row. row.items) rows

abbrev pub lists_in : List (Vec (ArrayVec ℕ) Global) → List (List (List ℕ))
lists_in tables = map (λ table. cells_in table.items) tables

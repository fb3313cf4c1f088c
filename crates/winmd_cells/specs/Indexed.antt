-- Rows by the row to which a column leads.
use Rattle.std.specs.Prelude.{◌≡◌, ℕ, ◌==◌, Bool, true, false, List, [], ◌∷◌, map, get_or, Option, Some, None, Vec}
use Rattle.std.specs.declared.alloc.Global.{Global}
use Rattle.md_schema.specs.declared.table.Table.{Table}
use Rattle.winmd_lines.specs.Cells.{rows_of_owner, passes, leads, cell}
use Rattle.winmd_cells.specs.declared.image.Image.{Image}
use Rattle.winmd_cells.specs.Seen.{seen, tables_in, row_seen}

-- lists of numbers
abbrev pub numbers_in : List (Vec ℕ Global) → List (List ℕ)
numbers_in lists = map (λ list. list.items) lists

-- it is this row
abbrev pub is_row : ℕ → Option ℕ → Bool
is_row m None = false
is_row m (Some n) = m == n

-- whether a column of a row leads to this row of a table
abbrev pub leads_by : Image → Table → ℕ → Table → ℕ → ℕ → Bool
leads_by image keyed column owner m n = passes (leads owner m) (cell (row_seen image keyed n) column)

abbrev pub only : Bool → ℕ → List ℕ
only true n = n ∷ []
only false n = []

-- The list of each number is that of the rows which belong to the row of that number; there is none for a number without a row.
abbrev pub IsIndex : Image → Table → ℕ → Table → List (Vec ℕ Global) → Type 0
IsIndex image keyed column owner lists = (m : ℕ) → map (seen image keyed) (get_or (numbers_in lists) m []) ≡ rows_of_owner (tables_in image) keyed column owner m

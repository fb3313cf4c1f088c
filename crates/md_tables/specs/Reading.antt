-- Rows as they follow each other, from an offset on.
use Rattle.std.specs.Prelude.{ℕ, zero, suc, ◌+◌, List, [], ◌∷◌}
use Rattle.md_bytes.specs.Bytes.{number_at, total}
use Rattle.md_schema.specs.declared.table.Table.{Table}
use Rattle.md_schema.specs.declared.sizes.Sizes.{Sizes}
use Rattle.md_schema.specs.Tables.{widths_of, table_size}
use Rattle.md_schema.specs.Widths.{count_of}

-- the numbers of a row
abbrev pub numbers_at : List ℕ → ℕ → List ℕ → List ℕ
numbers_at bytes at [] = []
numbers_at bytes at (w ∷ ws) = number_at bytes at w ∷ numbers_at bytes (at + w) ws

-- so many rows
abbrev pub rows_at : List ℕ → ℕ → List ℕ → ℕ → List (List ℕ)
rows_at bytes at ws zero = []
rows_at bytes at ws (suc n) = numbers_at bytes at ws ∷ rows_at bytes (at + total ws) ws n

-- the rows of several tables
abbrev pub tables_at : List ℕ → Sizes → ℕ → List Table → List (List (List ℕ))
tables_at bytes sizes at [] = []
tables_at bytes sizes at (t ∷ ts) = rows_at bytes at (widths_of sizes t) (count_of sizes t) ∷ tables_at bytes sizes (at + table_size sizes t) ts

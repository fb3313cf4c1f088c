-- The tables' stream as it is written (ECMA-335 II.24.2.6).
use Rattle.std.specs.Prelude.{ℕ, ◌+◌, ◌*◌, ◌^◌, ◌<◌, ◌≡◌, List, [], ◌∷◌, ◌++◌, length, Bool, if◌then◌else◌, nat_lt}
use Rattle.std.specs.List.{flat_map, AllByRecursion}
use Rattle.md_bytes.specs.Bytes.{le}
use Rattle.md_schema.specs.declared.table.Table.{Table}
use Rattle.md_schema.specs.declared.sizes.Sizes.{Sizes}
use Rattle.md_schema.specs.Schema.{all_tables}
use Rattle.md_schema.specs.Tables.{widths_of}
use Rattle.md_schema.specs.Widths.{count_of}

abbrev pub flag : Bool → ℕ → ℕ
flag b n = if b then n else 0

-- a bit for each table that has rows, the lowest for the table of number 0
abbrev pub bits : List ℕ → ℕ
bits [] = 0
bits (n ∷ ns) = flag (nat_lt 0 n) 1 + 2 * bits ns

-- the row counts of those tables
abbrev pub row_counts : List ℕ → List ℕ
row_counts [] = []
row_counts (n ∷ ns) = (if nat_lt 0 n then le 4 n else []) ++ row_counts ns

-- reserved, version 2.0, the heap bits, reserved, Valid and Sorted
unfoldable pub table_head : Sizes → List ℕ
table_head sizes = le 4 0 ++ (2 ∷ 0 ∷ (flag sizes.long_texts 1 + flag sizes.long_guids 2 + flag sizes.long_blobs 4) ∷ 1 ∷ []) ++ le 8 (bits sizes.rows) ++ le 8 0x000016003301FA00

-- a row: its cells, each in its column's width
abbrev pub row_bytes : List ℕ → List ℕ → List ℕ
row_bytes [] cells = []
row_bytes (w ∷ ws) [] = []
row_bytes (w ∷ ws) (n ∷ ns) = le w n ++ row_bytes ws ns

-- the rows of a table
abbrev pub rows_bytes : Sizes → (Table → List (List ℕ)) → Table → List ℕ
rows_bytes sizes rows table = flat_map (row_bytes (widths_of sizes table)) (rows table)

-- the whole stream, without the zeros that fill it up
abbrev pub table_bytes : Sizes → (Table → List (List ℕ)) → List ℕ
table_bytes sizes rows = table_head sizes ++ row_counts sizes.rows ++ flat_map (rows_bytes sizes rows) all_tables

-- ---- what can be written

-- A row has a number for each column, which fits its width.
abbrev pub RowFits : List ℕ → List ℕ → Type 0
RowFits [] cells = cells ≡ []
RowFits (w ∷ ws) [] = ⊥
RowFits (w ∷ ws) (n ∷ ns) = (n < 256 ^ w) × RowFits ws ns

-- The row counts are those of the rows, and each row fits.
pub record Fit (sizes : Sizes) (rows : Table → List (List ℕ)) : Type 0 where
  pub many : length sizes.rows ≡ 45
  pub small : AllByRecursion (λ n. n < 2 ^ 32) sizes.rows
  pub counts : (table : Table) → count_of sizes table ≡ length (rows table)
  pub fits : (table : Table) → AllByRecursion (RowFits (widths_of sizes table)) (rows table)

-- A cell of followed rows, by its column and its number.
use Rattle.std.proofs.Common.{◌≡◌, ℕ, zero, suc, ◌+◌, ◌-◌, List, [], ◌∷◌, get_or, Some, None, Ok, slice_get, refl, sym, arith, zero-add}
use native.Mathlib.Numerals.{unary_clauses}
use Rattle.md_schema.specs.declared.column.Column.{Column}
use Rattle.md_schema.specs.declared.table.Table.{Table}
use Rattle.md_schema.specs.Schema.{columns_of}
use Rattle.md_schema.specs.Tables.{raw}
use Rattle.winmd_rows.specs.Values.{Number as number_value, Heaps, followed_row, followed_rows}
use Rattle.winmd_lines.specs.Cells.{cell}
use Rattle.winmd_cells.specs.declared.image.Image.{Image}
use Rattle.winmd_cells.specs.Seen.{followed_cell, row_seen, number_seen, heaps_in, offsets_in}

pub row_followed : (heaps : Heaps) (offset : ℕ → ℕ → ℕ) (r : ℕ) (columns : List Column) (rows : List (List ℕ)) (k : ℕ) → get_or (followed_rows heaps offset r columns rows) k [] ≡ followed_row heaps (offset (r + k)) 0 columns (get_or rows k [])
row_followed heaps offset r [] [] k = refl
row_followed heaps offset r (column ∷ columns) [] k = refl
row_followed heaps offset r columns (row ∷ rows) zero = simp unary_clauses refl
row_followed heaps offset r columns (row ∷ rows) (suc k) = let e : suc r + k ≡ r + suc k = omega arith in rw (sym e) (row_followed heaps offset (suc r) columns rows k)

pub cell_followed : (heaps : Heaps) (offset : ℕ → ℕ) (c : ℕ) (columns : List Column) (ns : List ℕ) (k : ℕ) → cell (followed_row heaps offset c columns ns) k ≡ followed_cell heaps (offset (c + k)) (slice_get columns k) (slice_get ns k)
cell_followed heaps offset c [] ns k = refl
cell_followed heaps offset c (column ∷ columns) [] zero = refl
cell_followed heaps offset c (column ∷ columns) [] (suc k) = elim (slice_get columns k) as (λ o. Ok (number_value 0) ≡ followed_cell heaps (offset (c + suc k)) o None) [ Some x ↦ refl | None ↦ refl ]
cell_followed heaps offset c (column ∷ columns) (n ∷ ns) zero = simp unary_clauses refl
cell_followed heaps offset c (column ∷ columns) (n ∷ ns) (suc k) = let e : suc c + k ≡ c + suc k = omega arith in rw (sym e) (cell_followed heaps offset (suc c) columns ns k)

pub cell_seen : (image : Image) (table : Table) (n column : ℕ) → cell (row_seen image table n) column ≡ followed_cell (heaps_in image) (offsets_in image table (n - 1) column) (slice_get (columns_of table) column) (number_seen image table n column)
cell_seen image table n column =
    rw (row_followed (heaps_in image) (offsets_in image table) 0 (columns_of table) (raw image.stream.now table) (n - 1), zero-add (n - 1), cell_followed (heaps_in image) (offsets_in image table (n - 1)) 0 (columns_of table) (get_or (raw image.stream.now table) (n - 1) []) column, zero-add column) refl

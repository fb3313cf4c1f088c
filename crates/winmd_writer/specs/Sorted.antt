-- Rows as numbers, in the order in which they are written (ECMA-335 II.22.10, II.22.28).
use Rattle.std.specs.Prelude.{ℕ, List, get_or}
use Rattle.md_schema.specs.declared.table.Table.{Table}
use Rattle.md_schema.specs.declared.table.Table.TheVariants as tables
use Rattle.md_tables.specs.Numbers.{Rows}
use Rattle.winmd_lines.specs.Orders.{sort_by}

abbrev pub number_in : ℕ → List ℕ → ℕ
number_in column row = get_or row column 0

-- CustomAttribute by Parent, and MethodSemantics by Association
abbrev pub sorted_rows : Table → List (List ℕ) → List (List ℕ)
sorted_rows tables.CustomAttribute rows = sort_by (number_in 0) rows
sorted_rows tables.MethodSemantics rows = sort_by (number_in 2) rows
sorted_rows _ rows = rows

abbrev pub all_sorted : Rows → Rows
all_sorted rows table = sorted_rows table (rows table)

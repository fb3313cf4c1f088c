-- Coded indices (ECMA-335 II.24.2.6): which table and row a number names, and which number names them.
use Rattle.std.specs.Prelude.{ℕ, ◌+◌, ◌*◌, ◌/◌, ◌%◌, ◌^◌, ◌==◌, List, Option, Some, None, Bool, false, get_or, position, option_map}
use Rattle.md_schema.specs.declared.table.Table.{Table}
use Rattle.md_schema.specs.Schema.{number_of}

-- The low bits are the tag of a table, and the bits above are the row. Nothing where the tag has no table.
abbrev pub target_of : ℕ → List (Option Table) → ℕ → Option (Table × ℕ)
target_of bits tables raw = option_map (λ table. (table, raw / 2 ^ bits)) (get_or tables (raw % 2 ^ bits) None)

-- a choice is this table
abbrev pub is_table : Table → Option Table → Bool
is_table table None = false
is_table table (Some other) = number_of other == number_of table

-- The row stands above the bits of the tag, which is the place of the table in the list. Nothing where the list lacks the table.
abbrev pub code_of : ℕ → List (Option Table) → Table → ℕ → Option ℕ
code_of bits tables table row = option_map (λ tag. row * 2 ^ bits + tag) (position (is_table table) tables)

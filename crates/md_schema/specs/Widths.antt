-- How many bytes a column has (ECMA-335 II.24.2.6).
use Rattle.std.specs.Prelude.{ℕ, ◌-◌, ◌^◌, Bool, false, Option, Some, None, get_or, nat_lt, nat_le, if◌then◌else◌}
use Rattle.std.specs.List.{list_any}
use Rattle.md_schema.specs.declared.table.Table.{Table}
use Rattle.md_schema.specs.declared.column.CodedIndex.{CodedIndex}
use Rattle.md_schema.specs.declared.column.Column.{Column}
use Rattle.md_schema.specs.declared.column.Column.TheVariants.{One, Two, Four, Texts, Guids, Blobs, Index, Coded}
use Rattle.md_schema.specs.declared.sizes.Sizes.{Sizes}
use Rattle.md_schema.specs.Schema.{number_of, choices_of, bits_of}

-- how many rows a table has
abbrev pub count_of : Sizes → Table → ℕ
count_of sizes table = get_or sizes.rows (number_of table) 0

-- one of the tables of a coded index has so many rows or more
abbrev pub has_rows : Sizes → ℕ → Option Table → Bool
has_rows sizes least None = false
has_rows sizes least (Some table) = nat_le least (count_of sizes table)

-- an index has four bytes where it is long, else two
abbrev pub two_or_four : Bool → ℕ
two_or_four long = if long then 4 else 2

-- a coded index has four bytes
abbrev pub is_long_code : Sizes → CodedIndex → Bool
is_long_code sizes coded = list_any (has_rows sizes (2 ^ (16 - bits_of coded))) (choices_of coded)

-- A heap index is long by its heap's bit, the index of a table where that has more than 65,535 rows,
-- and a coded index with so many tag bits where one of its tables has 2 ^ (16 - bits) rows or more.
abbrev pub width_of : Sizes → Column → ℕ
width_of sizes One = 1
width_of sizes Two = 2
width_of sizes Four = 4
width_of sizes Texts = two_or_four sizes.long_texts
width_of sizes Guids = two_or_four sizes.long_guids
width_of sizes Blobs = two_or_four sizes.long_blobs
width_of sizes (Index table) = two_or_four (nat_lt 65535 (count_of sizes table))
width_of sizes (Coded coded) = two_or_four (is_long_code sizes coded)

-- Indices to rows (ECMA-335 II.24.2.6).
use Rattle.std.specs.Prelude.{ℕ, Bool, is_some, unwrap_or}
use Rattle.md_schema.specs.declared.column.CodedIndex.{CodedIndex}
use Rattle.md_schema.specs.declared.table.Table.{Table}
use Rattle.md_schema.specs.declared.column.Column.{Column}
use Rattle.md_schema.specs.declared.column.Column.TheVariants.{One, Two, Four, Texts, Guids, Blobs, Index, Coded}
use Rattle.md_schema.specs.Schema.{choices_of, bits_of}
use Rattle.md_schema.specs.Codes.{code_of}

-- the number that stands for a row in a column
abbrev pub index_of : Column → Table → ℕ → ℕ
index_of (Coded coded) table row = unwrap_or (code_of (bits_of coded) (choices_of coded) table row) 0
index_of One table row = row
index_of Two table row = row
index_of Four table row = row
index_of Texts table row = row
index_of Guids table row = row
index_of Blobs table row = row
index_of (Index other) table row = row

-- a coded index can name rows of a table
abbrev pub names_table : CodedIndex → Table → Bool
names_table c table = is_some (code_of (bits_of c) (choices_of c) table 0)

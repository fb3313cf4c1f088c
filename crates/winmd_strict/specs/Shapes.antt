-- Which values a column takes.
use Rattle.std.specs.Prelude.{◌==◌, ◌&&◌, Bool, true, false, List, [], ◌∷◌, is_some}
use Rattle.md_schema.specs.declared.column.Column.{Column}
use Rattle.md_schema.specs.declared.column.Column.TheVariants.{One, Two, Four, Texts, Guids, Blobs, Index, Coded}
use Rattle.md_schema.specs.Codes.{code_of}
use Rattle.md_schema.specs.Schema.{place_of, choices_of, bits_of}
use Rattle.winmd_rows.specs.Values.{Value, Number, Text, Blob, Guid, To}

abbrev pub value_fits : Column → Value → Bool
value_fits One (Number n) = true
value_fits Two (Number n) = true
value_fits Four (Number n) = true
value_fits Texts (Text text) = true
value_fits Guids (Guid n) = true
value_fits Blobs (Blob blob) = true
value_fits (Index table) (To other row) = place_of table == place_of other
value_fits (Coded coded) (To other row) = is_some (code_of (bits_of coded) (choices_of coded) other row)
value_fits _ _ = false

-- a value for each column
abbrev pub values_fit : List Column → List Value → Bool
values_fit [] [] = true
values_fit (column ∷ columns) (value ∷ values) = value_fits column value && values_fit columns values
values_fit _ _ = false

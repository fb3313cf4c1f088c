-- Cells, rows and lists of rows as reading follows them. A fault is looked for where a cell is followed, and stands at that cell.
use Rattle.std.specs.Prelude.{ℕ, suc, ◌-◌, ◌/◌, ◌%◌, ◌==◌, ◌&&◌, nat_lt, nat_le, Bool, true, false, List, [], ◌∷◌, ◌++◌, length, take, drop, get_or, Result, Ok, Err, if◌then◌else◌}
use Rattle.std.specs.List.{filter}
use Rattle.md_schema.specs.declared.table.Table.{Table}
use Rattle.md_schema.specs.declared.table.Table.TheVariants as tables
use Rattle.md_schema.specs.declared.faults.ImageKind.{ImageKind}
use Rattle.md_schema.specs.declared.faults.ImageKind.TheVariants.{RowRange, BadShape, PastLimit}
use Rattle.md_schema.specs.Schema.{place_of}
use Rattle.wr_base.specs.Paths.{is_identifier, is_path}
use Rattle.winmd_rows.specs.Faults.{Fault, fault, ◌>>=◌, checked}
use Rattle.wr_base.specs.Paths.{is_short_name}
use Rattle.winmd_rows.specs.Values.{Value, Number, Text, Blob, To, Cell, Rows, Offsets}

abbrev pub Row : Type 0
Row = List Cell

-- an image's rows, and where their cells stand
pub record Tables : Type 0 where
  pub rows : Rows
  pub offset : Offsets

-- a row with its number, from 1 on
abbrev pub Numbered : Type 0
Numbered = ℕ × Row

-- where a cell of a row stands
abbrev pub at : Tables → Table → ℕ → ℕ → ℕ
at t table n column = t.offset table (n - 1) column

-- ---- what a cell says

abbrev pub as_number : Value → ℕ
as_number (Number n) = n
as_number _ = 0

abbrev pub as_bytes : Value → List ℕ
as_bytes (Text text) = text
as_bytes (Blob blob) = blob
as_bytes _ = []

abbrev pub as_row : Value → ℕ
as_row (To table row) = row
as_row _ = 0

abbrev pub cell : Row → ℕ → Cell
cell row column = get_or row column (Ok (Number 0))

abbrev pub number_in : Row → ℕ → Result ℕ Fault
number_in row column = cell row column >>= λ value. Ok (as_number value)

-- the bytes of a text or a blob
abbrev pub bytes_in : Row → ℕ → Result (List ℕ) Fault
bytes_in row column = cell row column >>= λ value. Ok (as_bytes value)

abbrev pub row_in : Row → ℕ → Result ℕ Fault
row_in row column = cell row column >>= λ value. Ok (as_row value)

-- flags have this one, which is a power of two
abbrev pub has_flag : ℕ → ℕ → Bool
has_flag flags flag = flags / flag % 2 == 1

-- the cell leads into a table; to this row of it; nowhere
abbrev pub leads_into : Table → Value → Bool
leads_into table (To other r) = place_of table == place_of other
leads_into table _ = false

abbrev pub leads : Table → ℕ → Value → Bool
leads table row value = leads_into table value && (row == as_row value)

abbrev pub is_null : Value → Bool
is_null value = as_row value == 0

abbrev pub passes : (Value → Bool) → Cell → Bool
passes test (Ok value) = test value
passes test (Err fault) = false

-- ---- rows

abbrev pub numbered : ℕ → List Row → List Numbered
numbered n [] = []
numbered n (row ∷ rows) = (n, row) ∷ numbered (suc n) rows

abbrev pub all_rows : Tables → Table → List Numbered
all_rows t table = numbered 1 (t.rows table)

-- the rows of which a column leads to a row that there is: those that belong to it, wherever they stand
abbrev pub leading_rows : Tables → Table → ℕ → Table → ℕ → List Numbered
leading_rows t table column owner n = filter (λ row. passes (leads owner n) (cell row.1 column)) (all_rows t table)

abbrev pub rows_of_owner : Tables → Table → ℕ → Table → ℕ → List Numbered
rows_of_owner t table column owner n = if nat_le n (length (t.rows owner)) then leading_rows t table column owner n else []

-- the row of a number, for a cell at an offset
abbrev pub row_at : Tables → Table → ℕ → ℕ → Result Row Fault
row_at t table n offset = if nat_le 1 n && nat_le n (length (t.rows table)) then Ok (get_or (t.rows table) (n - 1) []) else fault RowRange offset

-- where the list of a row begins: after the last row, behind the last member
abbrev pub list_from : Tables → Table → ℕ → Table → ℕ → Result ℕ Fault
list_from t owner column member n = if nat_lt (length (t.rows owner)) n then Ok (suc (length (t.rows member))) else row_in (get_or (t.rows owner) (n - 1) []) column

-- the rows of the list of a row, which begins at 0 only where it is empty (that is asked of all rows before)
abbrev pub list_of : Tables → Table → ℕ → Table → ℕ → Result (List Numbered) Fault
list_of t owner column member n = do
  first ← list_from t owner column member n
  end ← list_from t owner column member (suc n)
  Ok (take (end - first) (drop (first - 1) (all_rows t member)))

-- no rows are here: else a fault stands at the first
abbrev pub none_of : ImageKind → (ℕ → ℕ) → List Numbered → Result Bool Fault
none_of kind offset [] = Ok true
none_of kind offset (row ∷ rows) = fault kind (offset row.0)

-- ---- names

-- an identifier of at most so many bytes
abbrev pub identifier_of : ℕ → ℕ → List ℕ → Result (List ℕ) Fault
identifier_of most offset name = do
  identifier ← checked (is_identifier name) BadShape offset
  short ← checked (nat_le (length name) most) PastLimit offset
  Ok name

abbrev pub name_in : Tables → Table → Numbered → ℕ → Result (List ℕ) Fault
name_in t table row column = bytes_in row.1 column >>= λ name. identifier_of 255 (at t table row.0 column) name

-- a full name is a path
abbrev pub path_of : ℕ → List ℕ → Result (List ℕ) Fault
path_of offset path = do
  parts ← checked (is_path path) BadShape offset
  short ← checked (is_short_name path) PastLimit offset
  Ok path

-- a namespace and a name; a type without a namespace has its name alone
abbrev pub joined : List ℕ → List ℕ → List ℕ
joined [] name = name
joined (b ∷ space) name = b ∷ space ++ 46 ∷ name

abbrev pub full_name_in : Row → Result (List ℕ) Fault
full_name_in row = do
  name ← bytes_in row 1
  space ← bytes_in row 2
  Ok (joined space name)

-- rows of TypeDef and TypeRef have their names in the same columns; rows of other tables have none
abbrev pub full_name_of : Table → Row → Result (List ℕ) Fault
full_name_of tables.TypeRef row = full_name_in row
full_name_of tables.TypeDef row = full_name_in row
full_name_of _ row = Ok []

-- the full name of the type that a cell at an offset leads to, whatever its scope
abbrev pub named_at : Tables → ℕ → Value → Result (List ℕ) Fault
named_at t offset (To table n) = row_at t table n offset >>= λ row. full_name_of table row
named_at t offset _ = Ok []

-- Rows with their indices followed.
use Rattle.std.specs.Prelude.{ℕ, suc, ◌+◌, List, [], ◌∷◌, map, Option, Some, None, Result, Ok, Err}
use Rattle.md_schema.specs.declared.table.Table.{Table}
use Rattle.md_schema.specs.declared.column.Column.{Column}
use Rattle.md_schema.specs.declared.column.Column.TheVariants.{One, Two, Four, Texts, Guids, Blobs, Index, Coded}
use Rattle.md_schema.specs.Schema.{columns_of, choices_of, bits_of}
use Rattle.md_schema.specs.Codes.{target_of}
use Rattle.md_schema.specs.Tables.{offset_of}
use Rattle.md_schema.specs.declared.faults.ImageFault.{ImageFault}
use Rattle.md_schema.specs.declared.faults.ImageKind.{ImageKind}
use Rattle.md_schema.specs.declared.faults.ImageKind.TheVariants.{BadTag}
use Rattle.winmd_rows.specs.Faults.{Fault, fault}
use Rattle.md_heaps.specs.Reading.{text_at, blob_at}

-- what a cell states
pub data Value : Type 0 where
  Number : ℕ → Value
  Text : List ℕ → Value
  Blob : List ℕ → Value
  Guid : ℕ → Value
  To : Table → ℕ → Value

pub record Heaps : Type 0 where
  pub texts : List ℕ
  pub blobs : List ℕ

-- what stands in a heap; a fault there is a fault of the cell, by its kind
abbrev pub text_value : Result (List ℕ) ImageFault → Result Value ImageKind
text_value (Ok text) = Ok (Text text)
text_value (Err fault) = Err fault.kind

abbrev pub blob_value : Result (List ℕ) ImageFault → Result Value ImageKind
blob_value (Ok blob) = Ok (Blob blob)
blob_value (Err fault) = Err fault.kind

-- a coded index, by the table and the row that it names; row 0 stands for nothing
abbrev pub choice : Option (Table × ℕ) → Result Value ImageKind
choice None = Err BadTag
choice (Some target) = Ok (To target.0 target.1)

abbrev pub follow : Heaps → Column → ℕ → Result Value ImageKind
follow heaps One n = Ok (Number n)
follow heaps Two n = Ok (Number n)
follow heaps Four n = Ok (Number n)
follow heaps Texts n = text_value (text_at heaps.texts n)
follow heaps Guids n = Ok (Guid n)
follow heaps Blobs n = blob_value (blob_at heaps.blobs n)
follow heaps (Index table) n = Ok (To table n)
follow heaps (Coded coded) n = choice (target_of (bits_of coded) (choices_of coded) n)

-- a fault stands where its cell stands
abbrev pub Cell : Type 0
Cell = Result Value Fault

abbrev pub placed : ℕ → Result Value ImageKind → Cell
placed offset (Ok value) = Ok value
placed offset (Err kind) = fault kind offset

-- one row: where each cell stands, its columns, and the numbers there
abbrev pub followed_row : Heaps → (ℕ → ℕ) → ℕ → List Column → List ℕ → List Cell
followed_row heaps offset c [] ns = []
followed_row heaps offset c (column ∷ columns) [] = []
followed_row heaps offset c (column ∷ columns) (n ∷ ns) = placed (offset c) (follow heaps column n) ∷ followed_row heaps offset (suc c) columns ns

abbrev pub followed_rows : Heaps → (ℕ → ℕ → ℕ) → ℕ → List Column → List (List ℕ) → List (List Cell)
followed_rows heaps offset r columns [] = []
followed_rows heaps offset r columns (row ∷ rows) = followed_row heaps (offset r) 0 columns row ∷ followed_rows heaps offset (suc r) columns rows

-- the rows of an image, table by table
abbrev pub Rows : Type 0
Rows = Table → List (List Cell)

-- where a cell stands in the image: table, row from 0, column
abbrev pub Offsets : Type 0
Offsets = Table → ℕ → ℕ → ℕ

-- where the cells of a tables' stream stand that begins at an offset
abbrev pub offsets_of : ℕ → List ℕ → Offsets
offsets_of at stream table row column = at + offset_of stream table row column

abbrev pub followed : Heaps → Offsets → (Table → List (List ℕ)) → Rows
followed heaps offset rows table = followed_rows heaps (offset table) 0 (columns_of table) (rows table)

-- rows that are stated, without a fault
abbrev pub stated_row : List Value → List Cell
stated_row row = map (λ value. Ok value) row

abbrev pub stated : (Table → List (List Value)) → Rows
stated rows table = map stated_row (rows table)

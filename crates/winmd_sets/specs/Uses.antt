-- The type that a cell names.
use Rattle.std.specs.Prelude.{ℕ, List, Result, Ok}
use Rattle.md_schema.specs.declared.table.Table.{Table}
use Rattle.md_schema.specs.declared.table.Table.TheVariants as tables
use Rattle.winmd_rows.specs.Faults.{Fault, ◌>>=◌}
use Rattle.winmd_rows.specs.Values.{Value, To}
use Rattle.winmd_sets.specs.Blobs.{spec_of}
use Rattle.winmd_lines.specs.Cells.{Numbered, Tables, at, cell, bytes_in, row_at, path_of, named_at}
use Rattle.wr_base.specs.Trees.{UseTree, reference}

-- a type that is named by its full name
abbrev pub use_of_name : ℕ → List ℕ → Result UseTree Fault
use_of_name offset name = path_of offset name >>= λ path. Ok (reference path)

abbrev pub use_of_cell : Tables → ℕ → Value → Result UseTree Fault
use_of_cell t offset (To tables.TypeSpec n) = do
  row ← row_at t tables.TypeSpec n offset
  blob ← bytes_in row 0
  spec_of t (at t tables.TypeSpec n 0) blob
use_of_cell t offset value = named_at t offset value >>= λ name. use_of_name offset name

abbrev pub use_in : Tables → Table → Numbered → ℕ → Result UseTree Fault
use_in t table row column = cell row.1 column >>= λ value. use_of_cell t (at t table row.0 column) value

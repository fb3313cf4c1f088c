-- What an image states, whoever wrote it.
use Rattle.std.specs.Prelude.{ℕ, ◌+◌, Bool, true, List, Option, Some, None, Result, Ok, Err}
use Rattle.md_schema.specs.declared.faults.ImageFault.{ImageFault}
use Rattle.md_schema.specs.Tables.{raw}
use Rattle.md_tables.specs.Faults.{fault_of}
use Rattle.winmd_image.specs.Slices.{Slices, unwrapped}
use Rattle.winmd_rows.specs.Faults.{Fault, Faulty, fault, ◌>>=◌}
use Rattle.winmd_rows.specs.Values.{Heaps, offsets_of, followed}
use Rattle.wr_base.specs.Trees.{DeclTree}
use Rattle.winmd_lines.specs.Cells.{Tables}
use Rattle.winmd_sets.specs.Types.{types_of}

-- a fault of a stream that begins at an offset
abbrev pub moved : ℕ → Option ImageFault → Result Bool Fault
moved at None = Ok true
moved at (Some found) = fault found.kind (at + found.offset)

-- the rows of a tables' stream at an offset, with their indices followed into the heaps
abbrev pub rows_in : ℕ → List ℕ → Heaps → Result Tables Fault
rows_in at tables heaps = moved at (fault_of tables) >>= λ whole. Ok (record { rows = followed heaps (offsets_of at tables) (raw tables); offset = offsets_of at tables })

abbrev pub rows_of_slices : Result Slices ImageFault → Result Tables Fault
rows_of_slices (Ok s) = rows_in s.tables.offset s.tables.bytes (record { texts = s.texts.bytes; blobs = s.blobs.bytes })
rows_of_slices (Err e) = Err (Faulty e)

-- The rows of an image, or its first fault.
abbrev pub RowsOf : List ℕ → Result Tables Fault
RowsOf bytes = rows_of_slices (unwrapped bytes)

-- The declarations that an image states, in the order of full names, or its first fault.
abbrev pub TypesOf : List ℕ → Result (List DeclTree) Fault
TypesOf bytes = RowsOf bytes >>= λ t. types_of t

-- A type that is named by its full name.
use Rattle.std.specs.Prelude.{ℕ, Result}
use Rattle.winmd_rows.specs.Faults.{Fault, ◌>>=◌}
use Rattle.winmd_rows.specs.Values.{Value}
use Rattle.winmd_lines.specs.Cells.{Tables, named_at}
use Rattle.winmd_sets.specs.Uses.{use_of_name}
use Rattle.wr_base.specs.Trees.{UseTree}

abbrev pub use_named : Tables → ℕ → Value → Result UseTree Fault
use_named t offset value = named_at t offset value >>= λ name. use_of_name offset name

-- The tests of a set, declaration by declaration.
use Rattle.std.specs.Prelude.{ℕ, suc, ◌+◌, not, nat_lt, nat_le, Bool, true, List, [], ◌∷◌, Result, Ok}
use Rattle.md_schema.specs.declared.table.Table.TheVariants as tables
use Rattle.md_schema.specs.declared.faults.ImageKind.TheVariants.{BadShape, PastLimit}
use Rattle.winmd_rows.specs.Faults.{Fault, ◌>>=◌, checked}
use Rattle.winmd_lines.specs.Cells.{Tables, at}
use Rattle.wr_base.specs.Trees.{DeclTree}
use Rattle.winmd_sets.specs.Types.{all_parts_of}
use Rattle.winmd_set.specs.Stated.{is_again}

-- behind so many types with so many parts a declaration keeps the limits; how many parts there are with it
abbrev pub within_limits : Tables → ℕ → ℕ → ℕ × DeclTree → Result ℕ Fault
within_limits t types parts d = do
  few ← checked (nat_lt types 20000) PastLimit (at t tables.TypeDef d.0 0)
  small ← checked (nat_le (parts + all_parts_of d.1) 500000) PastLimit (at t tables.TypeDef d.0 0)
  Ok (parts + all_parts_of d.1)

-- and no later one has its name
abbrev pub step_of : Tables → ℕ → ℕ → ℕ × DeclTree → List (ℕ × DeclTree) → Result ℕ Fault
step_of t types parts d ds = do
  all ← within_limits t types parts d
  once ← checked (not (is_again d ds)) BadShape (at t tables.TypeDef d.0 1)
  Ok all

abbrev pub steps_of : Tables → ℕ → ℕ → List (ℕ × DeclTree) → Result Bool Fault
steps_of t types parts [] = Ok true
steps_of t types parts (d ∷ ds) = step_of t types parts d ds >>= λ all. steps_of t (suc types) all ds

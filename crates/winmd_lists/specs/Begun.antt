-- What is asked of lists and of generic parameters, step by step.
use Rattle.std.specs.Prelude.{ℕ, suc, ◌==◌, Bool, true, Result, Ok}
use Rattle.md_schema.specs.declared.table.Table.{Table}
use Rattle.md_schema.specs.declared.table.Table.TheVariants as tables
use Rattle.md_schema.specs.declared.faults.ImageKind.TheVariants.{RowRange}
use Rattle.winmd_rows.specs.Faults.{Fault, ◌>>=◌, checked}
use Rattle.winmd_lines.specs.Cells.{Numbered, Tables, at, cell, leads_into, list_from, passes}
use Rattle.winmd_sets.specs.Types.{lists_begin}

-- whether there was no fault
abbrev pub well : {A : Type 0} → Result A Fault → Result Bool Fault
well answer = answer >>= λ found. Ok true

-- the list of a row, which begins at 0, ends there
abbrev pub ends_there : Tables → Table → ℕ → Table → ℕ → Result Bool Fault
ends_there t owner column member n = list_from t owner column member (suc n) >>= λ end. checked (end == 0) RowRange (at t owner n column)

-- of all five columns that begin lists
abbrev pub begun_in_turn : Tables → Result Bool Fault
begun_in_turn t = do
  fields ← well (lists_begin t tables.TypeDef 4 tables.Field)
  methods ← well (lists_begin t tables.TypeDef 5 tables.MethodDef)
  params ← well (lists_begin t tables.MethodDef 5 tables.Param)
  events ← well (lists_begin t tables.EventMap 1 tables.Event)
  well (lists_begin t tables.PropertyMap 1 tables.Property)

-- whether a generic parameter is a type's
abbrev pub is_generic : Numbered → Bool
is_generic row = passes (leads_into tables.TypeDef) (cell row.1 2)

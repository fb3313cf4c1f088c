-- The types of an image, step by step.
use Rattle.std.specs.Prelude.{ℕ, List, Result, Ok}
use Rattle.md_schema.specs.declared.table.Table.TheVariants as tables
use Rattle.winmd_rows.specs.Faults.{Fault, ◌>>=◌, each, somes}
use Rattle.winmd_lines.specs.Cells.{Numbered, Tables, all_rows}
use Rattle.wr_base.specs.Trees.{DeclTree}
use Rattle.winmd_sets.specs.Types.{all_begin, none_generic, type_of, types_of}
use Rattle.winmd_lists.specs.Begun.{well}
use Rattle.winmd_set.specs.Order.{set_in}

-- what rows of TypeDef state; those that state nothing are passed over
abbrev pub stated_by : Tables → List Numbered → Result (List (ℕ × DeclTree)) Fault
stated_by t rows = each (type_of t) rows >>= λ types. Ok (somes types)

-- the set of what the rows of tables state, which is looked for only where lists begin well and no type is generic
abbrev pub types_in_turn : Tables → Result (List DeclTree) Fault
types_in_turn t = do
  lists ← well (all_begin t)
  plain_types ← none_generic t
  stated ← stated_by t (all_rows t tables.TypeDef)
  set_in t stated

-- what rows that were found state, or the fault for which there are none
abbrev pub types_in_rows : Result Tables Fault → Result (List DeclTree) Fault
types_in_rows found = found >>= λ t. types_of t

-- The fields of an enum as the code has them, and the first parts of what the one that holds the value says.
use Rattle.std.specs.Prelude.{ℕ, Bool, false, List, Result, Ok, bytes_eq, codes}
use Rattle.md_schema.specs.declared.faults.ImageKind.TheVariants.{BadShape}
use Rattle.md_schema.specs.declared.table.Table.TheVariants as tables
use Rattle.winmd_rows.specs.Faults.{Fault, ◌>>=◌, checked, the_one}
use Rattle.winmd_lines.specs.Cells.{Numbered, Tables, at, bytes_in}
use Rattle.winmd_sets.specs.Fields.{field_type, flags_of, holder_flags, of_mark}
use Rattle.winmd_cells.specs.declared.image.Image.{Image}
use Rattle.winmd_cells.specs.Seen.{seen}
use Rattle.winmd_fields.specs.declared.marks.Mark.{Mark}

abbrev pub mark_seen : Image → Mark → Bool × Numbered
mark_seen image mark = (mark.is_case, seen image tables.Field mark.field)

-- whether its type is that of flags
abbrev pub holder_type : Tables → Numbered → Result Bool Fault
holder_type t holder = field_type t holder >>= λ kind. flags_of (at t tables.Field holder.0 2) kind

-- and its name that of the value
abbrev pub value_named : ℕ → Bool → List ℕ → Result Bool Fault
value_named offset flags name = checked (bytes_eq name (codes "value__")) BadShape offset >>= λ named. Ok flags

abbrev pub named_flags : Tables → Numbered → Result Bool Fault
named_flags t holder = holder_type t holder >>= λ flags. (bytes_in holder.1 1 >>= λ name. value_named (at t tables.Field holder.0 1) flags name)

-- whether the enum has flags, by the one field that is no case
abbrev pub held : Tables → ℕ → List (Bool × Numbered) → Result Bool Fault
held t n marks = the_one BadShape (at t tables.TypeDef n 4) (of_mark false marks) >>= λ holder. holder_flags t holder

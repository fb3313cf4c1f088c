-- The names in rows, and the types that begin their methods at a number.
use Rattle.std.specs.Prelude.{ℕ, List, Result}
use Rattle.md_schema.specs.declared.faults.ImageKind.{ImageKind}
use Rattle.md_schema.specs.declared.table.Table.{Table}
use Rattle.md_schema.specs.declared.table.Table.TheVariants as tables
use Rattle.winmd_lines.specs.Cells.{Numbered, full_name_in, leading_rows}
use Rattle.winmd_sets.specs.Blobs.{without_place}
use Rattle.winmd_cells.specs.declared.image.Image.{Image}
use Rattle.winmd_cells.specs.Seen.{row_seen, tables_in}

-- the full name in a row, or why it can't be read
abbrev pub name_seen : Image → Table → ℕ → Result (List ℕ) ImageKind
name_seen image table n = without_place (full_name_in (row_seen image table n))

-- the types whose lists of methods begin at a number
abbrev pub starting : Image → ℕ → List Numbered
starting image n = leading_rows (tables_in image) tables.TypeDef 5 tables.MethodDef n

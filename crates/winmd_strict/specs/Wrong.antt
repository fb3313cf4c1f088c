-- Rows that differ in one point from those that a set is written as, and that are read as that set all the same.
use Rattle.std.specs.Prelude.{List, [], ◌∷◌, ◌++◌, codes, take, drop}
use Rattle.md_schema.specs.declared.table.Table.TheVariants as tables
use Rattle.winmd_rows.specs.Values.{Rows, stated}
use Rattle.winmd_rows.specs.Values as values
use Rattle.wr_base.specs.Trees.{DeclTree, struct}
use Rattle.winmd_sets.specs.Examples.{point, point_fields, also, changed, with_rows}
use Rattle.winmd_sets.specs.Rows.{rows_of}

abbrev pub one : List DeclTree
one = point ∷ []

abbrev pub two : List DeclTree
two = point ∷ struct (codes "A.C") 1 point_fields ∷ []

-- a TypeRef that nothing uses
abbrev pub further_row : Rows
further_row = also tables.TypeRef (values.To tables.AssemblyRef 2 ∷ values.Text (codes "C") ∷ values.Text (codes "Z") ∷ []) (stated (rows_of one))

-- a struct that isn't sequential
abbrev pub wrong_flag : Rows
wrong_flag = changed tables.TypeDef 1 (values.Number 0x4101 ∷ values.Text (codes "B") ∷ values.Text (codes "A") ∷ values.To tables.TypeRef 1 ∷ values.To tables.Field 1 ∷ values.To tables.MethodDef 1 ∷ []) (stated (rows_of one))

-- attributes that aren't sorted by their parents
abbrev pub unsorted : Rows
unsorted = with_rows tables.CustomAttribute (drop 1 (stated (rows_of two) tables.CustomAttribute) ++ take 1 (stated (rows_of two) tables.CustomAttribute)) (stated (rows_of two))

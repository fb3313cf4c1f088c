-- Small sets, and rows that differ from theirs in one point.
use Rattle.std.specs.Prelude.{ℕ, suc, ◌+◌, ◌*◌, ◌==◌, false, List, [], ◌∷◌, ◌++◌, codes, take, drop, pos, Result, if◌then◌else◌}
use Rattle.md_schema.specs.declared.table.Table.{Table}
use Rattle.md_schema.specs.declared.table.Table.TheVariants as tables
use Rattle.md_schema.specs.Schema.{place_of}
use Rattle.winmd_rows.specs.Faults.{Fault}
use Rattle.winmd_rows.specs.Values.{Value, Rows, Offsets, Cell, stated_row}
use Rattle.winmd_rows.specs.Values as values
use Rattle.wr_base.specs.declared.type_use.Base.TheVariants as bases
use Rattle.wr_base.specs.Trees.{plain, FieldTree, DeclTree, enum, struct}
use Rattle.winmd_sets.specs.Shop.{case_of, field_of}
use Rattle.winmd_sets.specs.Types.{types_of}

-- the fields of the struct, and the struct
abbrev pub point_fields : List FieldTree
point_fields = field_of (codes "X") (plain bases.I32) ∷ []

abbrev pub point : DeclTree
point = struct (codes "A.B") 1 point_fields

abbrev pub size : DeclTree
size = enum (codes "A.E") 1 false (case_of (codes "A") (pos 0) ∷ [])

abbrev pub system_enum : DeclTree
system_enum = enum (codes "System.E") 1 false (case_of (codes "A") (pos 0) ∷ [])

-- a place for each cell, no two alike
abbrev pub places : Offsets
places table row column = place_of table * 10000 + row * 100 + column

abbrev pub reading : Rows → Result (List DeclTree) Fault
reading rows = types_of (record { rows = rows; offset = places })

-- these rows in one table
abbrev pub with_rows : Table → List (List Cell) → Rows → Rows
with_rows table rows others t = if place_of table == place_of t then rows else others t

-- a row more at the end of a table; another row in place of one
abbrev pub also : Table → List Value → Rows → Rows
also table row others = with_rows table (others table ++ stated_row row ∷ []) others

abbrev pub changed : Table → ℕ → List Value → Rows → Rows
changed table n row others = with_rows table (take n (others table) ++ stated_row row ∷ drop (suc n) (others table)) others

-- An attribute's type may be declared in the image: row 2 of TypeDef, whose one method is the constructor, and which isn't read, since it
-- extends `System.Attribute`. It stands before the struct; the attribute says version 7.
abbrev pub marked_by_own : Rows → Rows
marked_by_own others =
    with_rows tables.TypeDef (take 1 (others tables.TypeDef)
    ++ stated_row (values.Number 0x4001 ∷ values.Text (codes "VersionAttribute") ∷ values.Text (codes "Windows.Foundation.Metadata") ∷ values.To tables.TypeRef 3 ∷ values.To tables.Field 1 ∷ values.To tables.MethodDef 1 ∷ [])
    ∷ stated_row (values.Number 0x4109 ∷ values.Text (codes "B") ∷ values.Text (codes "A") ∷ values.To tables.TypeRef 1 ∷ values.To tables.Field 1 ∷ values.To tables.MethodDef 2 ∷ []) ∷ [])
    (with_rows tables.MethodDef (stated_row (values.Number 0 ∷ values.Number 0 ∷ values.Number 0 ∷ values.Text (codes ".ctor") ∷ values.Blob (0x20 ∷ 1 ∷ 0x01 ∷ 0x09 ∷ []) ∷ values.To tables.Param 1 ∷ []) ∷ [])
    (with_rows tables.CustomAttribute (stated_row (values.To tables.TypeDef 3 ∷ values.To tables.MethodDef 1 ∷ values.Blob (1 ∷ 0 ∷ 7 ∷ 0 ∷ 0 ∷ 0 ∷ 0 ∷ 0 ∷ []) ∷ []) ∷ [])
    (also tables.TypeRef (values.To tables.AssemblyRef 1 ∷ values.Text (codes "Attribute") ∷ values.Text (codes "System") ∷ []) others)))

-- the name of the version's attribute, split at another dot
abbrev pub split_name : Rows → Rows
split_name others = changed tables.TypeRef 1 (values.To tables.AssemblyRef 2 ∷ values.Text (codes "Metadata.VersionAttribute") ∷ values.Text (codes "Windows.Foundation") ∷ []) others

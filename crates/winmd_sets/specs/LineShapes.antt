-- Which lines fit the columns of their tables, and begin their lists where they stand.
use Rattle.std.specs.Prelude.{ℕ, ◌==◌, ◌&&◌, ◌||◌, not, Bool, true, false, List, [], ◌∷◌}
use Rattle.md_schema.specs.declared.table.Table.{Table}
use Rattle.md_schema.specs.declared.table.Table.TheVariants as tables
use Rattle.md_schema.specs.declared.column.Column.{Column}
use Rattle.md_schema.specs.declared.column.Column.TheVariants.{One, Two, Four, Texts, Guids, Blobs, Index, Coded}
use Rattle.md_schema.specs.Schema.{place_of, columns_of}
use Rattle.winmd_rows.specs.Indices.{names_table}
use Rattle.winmd_lines.specs.Lines.{Drawn, Number, Words, Bytes, Guid, To, Last, Next, Type_, MadeBy, OfField, OfProperty, OfMethod, OfSpec, Line}
use Rattle.winmd_lines.specs.Names.{is_in}
use Rattle.winmd_lines.specs.Positions.{cell_of}

abbrev pub drawn_fits : Column → Drawn → Bool
drawn_fits One (Number n) = true
drawn_fits Two (Number n) = true
drawn_fits Four (Number n) = true
drawn_fits Texts (Words text) = true
drawn_fits Guids (Guid n) = true
drawn_fits Blobs (Bytes bytes) = true
drawn_fits Blobs (OfField use_) = true
drawn_fits Blobs (OfProperty use_) = true
drawn_fits Blobs (OfMethod sig) = true
drawn_fits Blobs (OfSpec use_) = true
drawn_fits (Index table) (To other n) = place_of table == place_of other
drawn_fits (Index table) (Last other) = place_of table == place_of other
drawn_fits (Index table) (Next other) = place_of table == place_of other
drawn_fits (Coded c) (To other n) = names_table c other
drawn_fits (Coded c) (Last other) = names_table c other
drawn_fits (Coded c) (Next other) = names_table c other
drawn_fits (Coded c) (Type_ use_) = names_table c tables.TypeDef && (names_table c tables.TypeRef && names_table c tables.TypeSpec)
drawn_fits (Coded c) (MadeBy maker) = names_table c tables.MemberRef
drawn_fits _ _ = false

abbrev pub cells_fit : List Column → List Drawn → Bool
cells_fit [] [] = true
cells_fit (column ∷ columns) (cell ∷ cells) = drawn_fits column cell && cells_fit columns cells
cells_fit _ _ = false

abbrev pub line_fits : Line → Bool
line_fits l = cells_fit (columns_of l.table) l.cells

abbrev pub is_next : Table → Drawn → Bool
is_next table (Next other) = place_of table == place_of other
is_next table _ = false

-- a line of the owner's table begins its list where it stands
abbrev pub begins_list : Table → ℕ → Table → Line → Bool
begins_list owner column member l = not (is_in owner l) || is_next member (cell_of l column)

-- a line fits, and begins the lists of its table where it stands
abbrev pub line_ok : Line → Bool
line_ok l =
    line_fits l && (begins_list tables.TypeDef 4 tables.Field l && (begins_list tables.TypeDef 5 tables.MethodDef l
    && (begins_list tables.MethodDef 5 tables.Param l && (begins_list tables.EventMap 1 tables.Event l && begins_list tables.PropertyMap 1 tables.Property l))))

-- What the code's attributes are seen as.
use Rattle.std.specs.Prelude.{ℕ, []}
use Rattle.md_schema.specs.declared.table.Table.TheVariants as tables
use Rattle.winmd_lines.specs.Cells.{Row, at}
use Rattle.winmd_cells.specs.declared.image.Image.{Image}
use Rattle.winmd_cells.specs.Names.{full_seen}
use Rattle.winmd_cells.specs.Seen.{row_seen, seen, tables_in}
use Rattle.winmd_sets.specs.Attributes.{Attribute as AttributeTree, Constructor}
use Rattle.winmd_attributes.specs.declared.constructors.Attribute.{Attribute}
use Rattle.winmd_attributes.specs.declared.constructors.Made.{Made}
use Rattle.winmd_attributes.specs.declared.constructors.Maker.{Maker}
use Rattle.winmd_attributes.specs.declared.constructors.Maker.TheVariants as makers

-- the row of a constructor, and the column and offset of its signature
abbrev pub maker_row : Image → Maker → Row
maker_row image (makers.Reference n) = row_seen image tables.MemberRef n
maker_row image (makers.Method n) = row_seen image tables.MethodDef n
maker_row image makers.Nothing = []

abbrev pub maker_column : Maker → ℕ
maker_column (makers.Reference n) = 2
maker_column (makers.Method n) = 4
maker_column makers.Nothing = 0

abbrev pub maker_offset : Image → Maker → ℕ
maker_offset image (makers.Reference n) = at (tables_in image) tables.MemberRef n 2
maker_offset image (makers.Method n) = at (tables_in image) tables.MethodDef n 4
maker_offset image makers.Nothing = 0

abbrev pub made_seen : Image → Made → Constructor
made_seen image made = record { type_ = full_seen made.type_; signature = maker_row image made.maker; column = maker_column made.maker; offset = maker_offset image made.maker }

abbrev pub attribute_seen : Image → Attribute → AttributeTree
attribute_seen image attribute = record { made = made_seen image attribute.made; row = seen image tables.CustomAttribute attribute.row }

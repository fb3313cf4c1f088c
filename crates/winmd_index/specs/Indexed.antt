-- What is found once of an image.
use Rattle.std.specs.Prelude.{◌≡◌, ◌≤◌, ℕ, get_or, length}
use Rattle.md_schema.specs.declared.table.Table.TheVariants as tables
use Rattle.sig_blobs.specs.Tokens.{meaning_in}
use Rattle.winmd_sets.specs.Attributes.{owner_of}
use Rattle.winmd_sets.specs.Blobs.{meanings}
use Rattle.winmd_cells.specs.declared.image.Image.{Image}
use Rattle.winmd_cells.specs.Indexed.{IsIndex}
use Rattle.winmd_cells.specs.Seen.{tables_in}
use Rattle.winmd_index.specs.declared.indexes.Indexes.{Indexes}

-- These are the names that an image's tokens stand for, its rows by the row to which each belongs, and the type that owns each of its methods.
pub record IsIndexes (image : Image) (indexes : Indexes) : Type 0 where
  pub named : meaning_in indexes.names ≡ meanings (tables_in image)
  pub constants : IsIndex image tables.Constant 2 tables.Field indexes.parts.constants.items
  pub interfaces : IsIndex image tables.InterfaceImpl 0 tables.TypeDef indexes.parts.interfaces.items
  pub semantics : IsIndex image tables.MethodSemantics 1 tables.MethodDef indexes.parts.semantics.items
  pub nested : IsIndex image tables.NestedClass 0 tables.TypeDef indexes.parts.nested.items
  pub of_types : IsIndex image tables.CustomAttribute 0 tables.TypeDef indexes.attributes.of_types.items
  pub of_methods : IsIndex image tables.CustomAttribute 0 tables.MethodDef indexes.attributes.of_methods.items
  pub of_interfaces : IsIndex image tables.CustomAttribute 0 tables.InterfaceImpl indexes.attributes.of_interfaces.items
  pub owners : (n : ℕ) → n ≤ length ((tables_in image).rows tables.MethodDef) → get_or indexes.attributes.owners.items n 0 ≡ owner_of (tables_in image) n

use Rattle.std.proofs.Common.{◌≡◌, map, length}
use Rattle.md_schema.specs.declared.table.Table.TheVariants as tables
use Rattle.winmd_rows.specs.Faults.{each}
use Rattle.winmd_sets.specs.Attributes.{attribute_of}
use Rattle.winmd_cells.specs.Seen.{seen, tables_in}
use Rattle.winmd_source.specs.Behind.{behind}
use Rattle.winmd_attributes.specs.Seen.{attribute_seen}
use Rattle.winmd_attributes.proofs.constructors.attributes_of.Given as goal

abbrev pub invariant-each : goal.invariant-each
invariant-each l =
    behind (map (attribute_seen l.source.image) l.attributes.items) (each (attribute_of (tables_in l.source.image)) (map (seen l.source.image tables.CustomAttribute) l.rest))
    ≡ each (attribute_of (tables_in l.source.image)) (map (seen l.source.image tables.CustomAttribute) l.fn.rows)

abbrev pub decreases-each : goal.decreases-each
decreases-each l = length l.rest

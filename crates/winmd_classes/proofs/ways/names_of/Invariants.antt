use Rattle.std.proofs.Common.{◌≡◌, map, take, Ok}
use Rattle.winmd_rows.specs.Faults.{each}
use Rattle.winmd_attributes.specs.Seen.{attribute_seen}
use Rattle.winmd_cells.specs.Seen.{tables_in}
use Rattle.winmd_sets.specs.Attributes.{type_name_of}
use Rattle.winmd_classes.proofs.ways.names_of.Given as goal

abbrev pub invariant-loop-attribute : goal.invariant-loop-attribute
invariant-loop-attribute l = each (type_name_of (tables_in l.source.image)) (map (attribute_seen l.source.image) (take l.attribute-index l.attributes)) ≡ Ok l.names.items

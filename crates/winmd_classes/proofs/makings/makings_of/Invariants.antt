use Rattle.std.proofs.Common.{◌≡◌, map, take, Ok}
use Rattle.winmd_rows.specs.Faults.{each}
use Rattle.winmd_attributes.specs.Seen.{attribute_seen}
use Rattle.winmd_cells.specs.Seen.{tables_in}
use Rattle.winmd_sets.specs.Classes.{making_of}
use Rattle.winmd_classes.specs.Seen.{making_seen}
use Rattle.winmd_classes.proofs.makings.makings_of.Given as goal

abbrev pub invariant-loop-attribute : goal.invariant-loop-attribute
invariant-loop-attribute l = each (making_of (tables_in l.source.image)) (map (attribute_seen l.source.image) (take l.attribute-index l.attributes)) ≡ Ok (map making_seen l.makings.items)

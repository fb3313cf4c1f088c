use Rattle.std.proofs.Common.{◌≡◌, map, option_map, length}
use Rattle.winmd_rows.specs.Faults.{each}
use Rattle.winmd_cells.specs.Seen.{tables_in}
use Rattle.winmd_sets.specs.Classes.{with_default}
use Rattle.winmd_source.specs.Behind.{behind}
use Rattle.wr_base.specs.Trees.{tree_of}
use Rattle.winmd_classes.specs.Seen.{implemented_seen}
use Rattle.winmd_classes.proofs.defaults.with_defaults.Given as goal

abbrev pub invariant-each : goal.invariant-each
invariant-each l = behind (map (option_map tree_of) l.defaults.items) (each (with_default (tables_in l.source.image)) (map implemented_seen l.rest)) ≡ each (with_default (tables_in l.source.image)) (map implemented_seen l.fn.interfaces)

abbrev pub decreases-each : goal.decreases-each
decreases-each l = length l.rest

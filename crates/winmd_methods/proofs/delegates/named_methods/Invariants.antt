use Rattle.std.proofs.Common.{◌≡◌, map, length}
use Rattle.md_schema.specs.declared.table.Table.TheVariants as tables
use Rattle.winmd_rows.specs.Faults.{each}
use Rattle.winmd_sets.specs.Methods.{named_method}
use Rattle.winmd_cells.specs.Seen.{seen, tables_in}
use Rattle.winmd_source.specs.Behind.{behind}
use Rattle.winmd_methods.specs.Seen.{method_seen}
use Rattle.winmd_methods.proofs.delegates.named_methods.Given as goal

abbrev pub invariant-each : goal.invariant-each
invariant-each l = behind (map (method_seen l.source.image) l.methods.items) (each (named_method (tables_in l.source.image)) (map (seen l.source.image tables.MethodDef) l.rest)) ≡ each (named_method (tables_in l.source.image)) (map (seen l.source.image tables.MethodDef) l.fn.rows)

abbrev pub decreases-each : goal.decreases-each
decreases-each l = length l.rest

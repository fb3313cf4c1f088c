use Rattle.std.proofs.Common.{◌≡◌, map, length}
use Rattle.md_schema.specs.declared.table.Table.TheVariants as tables
use Rattle.winmd_rows.specs.Faults.{each}
use Rattle.winmd_sets.specs.Interfaces.{role_of}
use Rattle.winmd_cells.specs.Seen.{seen, tables_in}
use Rattle.winmd_source.specs.Behind.{behind}
use Rattle.winmd_members.specs.Seen.{played_seen}
use Rattle.winmd_members.proofs.roles.roles_of.Given as goal

abbrev pub invariant-each : goal.invariant-each
invariant-each l = behind (map (played_seen l.source.image) l.roles.items) (each (role_of (tables_in l.source.image)) (map (seen l.source.image tables.MethodDef) l.rest)) ≡ each (role_of (tables_in l.source.image)) (map (seen l.source.image tables.MethodDef) l.fn.methods)

abbrev pub decreases-each : goal.decreases-each
decreases-each l = length l.rest

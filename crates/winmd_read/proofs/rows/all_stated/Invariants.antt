use Rattle.std.proofs.Common.{◌≡◌, map, length}
use Rattle.md_schema.specs.declared.table.Table.TheVariants as tables
use Rattle.winmd_cells.specs.Seen.{seen, tables_in}
use Rattle.winmd_set.specs.Stated.{stated_seen}
use Rattle.winmd_source.specs.Behind.{behind}
use Rattle.winmd_read.specs.InTurn.{stated_by}
use Rattle.winmd_read.proofs.rows.all_stated.Given as goal

abbrev pub invariant-each : goal.invariant-each
invariant-each l =
    behind (map stated_seen l.list.items) (stated_by (tables_in l.source.image) (map (seen l.source.image tables.TypeDef) l.rest))
    ≡ stated_by (tables_in l.source.image) (map (seen l.source.image tables.TypeDef) l.fn.rows)

abbrev pub decreases-each : goal.decreases-each
decreases-each l = length l.rest

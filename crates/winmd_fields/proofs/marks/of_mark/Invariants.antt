use Rattle.std.proofs.Common.{◌≡◌, ◌++◌, map, length}
use Rattle.md_schema.specs.declared.table.Table.TheVariants as tables
use Rattle.winmd_sets.specs.Fields.{of_mark}
use Rattle.winmd_cells.specs.Seen.{seen}
use Rattle.winmd_fields.specs.Seen.{mark_seen}
use Rattle.winmd_fields.proofs.marks.of_mark.Given as goal

abbrev pub invariant-each : goal.invariant-each
invariant-each l = map (seen l.source.image tables.Field) l.fields.items ++ of_mark l.is_case (map (mark_seen l.source.image) l.rest) ≡ of_mark l.is_case (map (mark_seen l.source.image) l.fn.marks)

abbrev pub decreases-each : goal.decreases-each
decreases-each l = length l.rest

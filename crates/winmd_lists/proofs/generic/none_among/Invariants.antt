use Rattle.std.proofs.Common.{◌≡◌, map, length}
use Rattle.std.specs.List.{filter}
use Rattle.md_schema.specs.declared.faults.ImageKind.TheVariants.{GenericDefinition}
use Rattle.md_schema.specs.declared.table.Table.TheVariants as tables
use Rattle.winmd_cells.specs.Seen.{seen, tables_in}
use Rattle.winmd_lines.specs.Cells.{at, none_of}
use Rattle.winmd_lists.specs.Begun.{is_generic}
use Rattle.winmd_lists.proofs.generic.none_among.Given as goal

abbrev pub invariant-each : goal.invariant-each
invariant-each l =
    none_of GenericDefinition (λ n. at (tables_in l.image) tables.GenericParam n 2) (filter is_generic (map (seen l.image tables.GenericParam) l.rest))
    ≡ none_of GenericDefinition (λ n. at (tables_in l.image) tables.GenericParam n 2) (filter is_generic (map (seen l.image tables.GenericParam) l.fn.rows))

abbrev pub decreases-each : goal.decreases-each
decreases-each l = length l.rest

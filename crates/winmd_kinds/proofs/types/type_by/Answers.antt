use Rattle.std.proofs.Common.{sym, ◌∙◌}
use Rattle.md_schema.specs.declared.table.Table.TheVariants as tables
use Rattle.winmd_cells.specs.Names.{full_seen}
use Rattle.winmd_cells.specs.Seen.{seen, tables_in, value_seen}
use Rattle.winmd_kinds.proofs.KindLaws.{read_is}
use Rattle.winmd_kinds.proofs.types.type_by.Goals as goal

pub returns-else-is_named : goal.returns-else-is_named
returns-else-is_named c =
    rw (sym c.is_named.ensures ∙ c.if-is_named.false, read_is (tables_in c.args.source.now.image) (seen c.args.source.now.image tables.TypeDef c.args.n) c.args.flags (full_seen c.args.full.now) (value_seen c.args.extends) (full_seen c.args.base.now))
    (rw c.kind_of.ensures at c.read_type.ensures)

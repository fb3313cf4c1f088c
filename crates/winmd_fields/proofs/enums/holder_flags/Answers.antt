use Rattle.md_schema.specs.declared.table.Table.TheVariants as tables
use Rattle.winmd_cells.specs.Seen.{seen, tables_in}
use Rattle.winmd_fields.proofs.CaseLaws.{same_flags}
use Rattle.winmd_fields.proofs.enums.holder_flags.Goals as goal

pub returns : goal.returns
returns c = rw (same_flags (tables_in c.args.source.now.image) (seen c.args.source.now.image tables.Field c.args.holder)) c.named_flags.ensures

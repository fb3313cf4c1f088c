use Rattle.md_schema.specs.declared.table.Table.TheVariants as tables
use Rattle.winmd_cells.specs.Seen.{seen, tables_in}
use Rattle.winmd_methods.proofs.ParamLaws.{whole}
use Rattle.winmd_methods.proofs.signatures.signature_of.Goals as goal

pub returns : goal.returns
returns c = rw (whole (tables_in c.args.source.now.image) (seen c.args.source.now.image tables.MethodDef c.args.row)) c.whole_signature.ensures

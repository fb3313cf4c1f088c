use Rattle.md_schema.proofs.TablesLemmas.{row_length}
use Rattle.md_tables.proofs.writable.row_fits.Goals as goal

pub returns-then-cells-widths : goal.returns-then-cells-widths
returns-then-cells-widths c = (
  λ t. absurd cc,
  λ fits. absurd (c.if-cells-widths.true (row_length c.args.widths.now c.args.cells.now fits)),
)

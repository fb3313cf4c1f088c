use Rattle.md_tables.proofs.WidthLemmas.{narrow_list}
use Rattle.md_tables.proofs.cells.widths.Goals as goal

pub returns-clause-narrow : goal.returns-clause-narrow
returns-clause-narrow c = narrow_list c.args.sizes.now c.args.columns.now c.loop-column.widths.items c.loop-column.column-index c.loop-column.invariant

use Rattle.std.proofs.Common.{sym}
use Rattle.winmd_cells.proofs.CellLaws.{cell_seen}
use Rattle.winmd_cells.proofs.image.Image.cell.Goals as goal

pub returns : goal.returns
returns c = rw (cell_seen c.args.self.now c.args.table c.args.n c.args.column, sym c.column_of.ensures, sym c.raw.ensures) c.cell_by.ensures

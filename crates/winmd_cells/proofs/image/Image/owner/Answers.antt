use Rattle.std.proofs.Common.{sym}
use Rattle.winmd_cells.proofs.CellLaws.{cell_seen}
use Rattle.winmd_cells.proofs.image.Image.owner.Goals as goal

pub returns : goal.returns
returns c = λ m. rw (cell_seen c.args.self.now c.args.keyed c.args.n c.args.column, sym c.column_of.ensures, sym c.raw.ensures) (c.led.ensures _ m)

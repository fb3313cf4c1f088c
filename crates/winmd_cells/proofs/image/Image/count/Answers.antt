use Rattle.std.proofs.Common.{◌∙◌, sym}
use Rattle.winmd_cells.proofs.RowLaws.{length_rows}
use Rattle.winmd_cells.proofs.image.Image.count.Goals as goal

pub returns : goal.returns
returns c = c.count.ensures ∙ sym (length_rows c.args.self.now c.args.table)

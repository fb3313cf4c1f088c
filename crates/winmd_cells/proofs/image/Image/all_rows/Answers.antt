use Rattle.std.proofs.Common.{ap, ◌∙◌, take, refl}
use Rattle.winmd_cells.proofs.RowLaws.{take_upto, length_rows}
use Rattle.winmd_cells.proofs.image.Image.all_rows.Goals as goal

pub returns : goal.returns
returns c = rw (c.as_slice.ensures.value, c.count.ensures) (ap (take _) c.args.self.now.counted ∙ take_upto 1 _ _ (c.args.self.now.enough c.args.table) ∙ rw (length_rows c.args.self.now c.args.table) refl)

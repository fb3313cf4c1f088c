use Rattle.std.proofs.Common.{sym, ◌-◌}
use Rattle.winmd_cells.proofs.RowLaws.{part_seen}
use Rattle.winmd_cells.proofs.image.Image.rows_between.Goals as goal

pub returns : goal.returns
returns c = rw (c.part.ensures, c.saturating_sub-from.ensures, c.saturating_sub-size.ensures, c.all_rows.ensures) (sym (part_seen c.args.self.now c.args.member (c.args.first - 1) (c.args.end - c.args.first)))

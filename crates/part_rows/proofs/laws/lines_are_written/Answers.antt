use Rattle.part_rows.proofs.GrownLaws.{grown_written, with_both}
use Rattle.part_rows.proofs.laws.lines_are_written.Goals as goal

pub returns : goal.returns
returns c = record { written = grown_written; further = with_both }

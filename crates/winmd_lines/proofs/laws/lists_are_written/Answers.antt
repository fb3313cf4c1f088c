use Rattle.winmd_lines.proofs.LineLaws.{list_is}
use Rattle.winmd_lines.proofs.laws.lists_are_written.Goals as goal

pub returns : goal.returns
returns c = list_is

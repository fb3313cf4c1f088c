use Rattle.std.proofs.Common.{◌∙◌, take, drop, ap}
use Rattle.row_writer.specs.Known.{Values}
use Rattle.winmd_sets.specs.Declared.{first_lines}
use Rattle.part_rows.specs.Grown.{with_lines}
use Rattle.part_rows.specs.Nothing.{nothing}
use Rattle.part_rows.proofs.ResultLaws.{on_ok}
use Rattle.part_rows.proofs.first.put_references.Goals as goal

pub returns : goal.returns
returns c = on_ok c.put_foundation.result _ _ (λ e. e ∙ ap (λ (rows : Values). with_lines nothing (take 1 (drop 3 first_lines)) rows) c.in_ok-put_core.ensures) c.put_foundation.ensures

use Rattle.std.proofs.Common.{◌∙◌, drop, ap}
use Rattle.row_writer.specs.Known.{Values}
use Rattle.winmd_sets.specs.Declared.{first_lines}
use Rattle.part_rows.specs.Grown.{with_lines}
use Rattle.part_rows.specs.Nothing.{nothing}
use Rattle.part_rows.proofs.ResultLaws.{on_ok}
use Rattle.part_rows.proofs.first.put_first.Goals as goal

pub returns : goal.returns
returns c =
    on_ok c.put_module_type.result _ _
    (λ e. e ∙ ap (λ (rows : Values). with_lines nothing (drop 4 first_lines) rows) c.in_ok-put_references.ensures
    ∙ ap (λ (rows : Values). with_lines nothing (drop 2 first_lines) rows) c.in_ok-put_assembly.ensures
    ∙ ap (λ (rows : Values). with_lines nothing (drop 1 first_lines) rows) c.in_ok-put_module.ensures)
    c.put_module_type.ensures

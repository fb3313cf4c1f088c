use Rattle.std.proofs.Common.{◌∙◌, ap}
use Rattle.row_writer.specs.Known.{Values}
use Rattle.winmd_sets.specs.Declared.{body_lines}
use Rattle.wr_base.specs.Trees.{enum}
use Rattle.part_rows.specs.Grown.{with_lines}
use Rattle.kind_rows.proofs.LoopLaws.{on_ok}
use Rattle.kind_rows.proofs.enums.put_enum.Goals as goal

pub returns : goal.returns
returns g c =
    let names = g.N.Referred.names c.args.names.now in
    on_ok c.put_enum_body.result _ _
    (λ e. e ∙ ap (λ (rows : Values). with_lines names (body_lines (enum c.args.name.now c.args.version c.args.flags c.args.cases.now)) rows) c.in_ok-put_type.ensures)
    c.put_enum_body.ensures

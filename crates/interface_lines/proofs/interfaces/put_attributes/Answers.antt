use Rattle.std.proofs.Common.{◌∙◌, List, ◌∷◌, ap}
use Rattle.row_writer.specs.Known.{Values}
use Rattle.winmd_lines.specs.Lines.{Line}
use Rattle.winmd_sets.specs.Declared.{owner_of_type, version_of_type}
use Rattle.part_rows.specs.Grown.{with_lines}
use Rattle.kind_rows.proofs.LoopLaws.{on_ok}
use Rattle.interface_lines.proofs.interfaces.put_attributes.Goals as goal

pub returns : goal.returns
returns g c =
    let names = g.N.Referred.names c.args.names.now in
    let owned : List Line = owner_of_type c.args.owner.now in
    on_ok c.put_owner_if.result _ _
    (λ e. e ∙ ap (λ (rows : Values). with_lines names owned rows) c.in_ok-put_version.ensures
    ∙ ap (λ (rows : Values). with_lines names (version_of_type c.args.version ∷ owned) rows) c.in_ok-put_id.ensures)
    c.put_owner_if.ensures

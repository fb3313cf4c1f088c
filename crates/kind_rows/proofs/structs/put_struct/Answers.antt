use Rattle.std.proofs.Common.{◌∙◌, ap, drop, map}
use Rattle.row_writer.specs.Known.{Values}
use Rattle.winmd_sets.specs.Declared.{lines_of}
use Rattle.wr_base.specs.Trees.{struct, field_tree}
use Rattle.part_rows.specs.Grown.{with_lines}
use Rattle.kind_rows.proofs.LoopLaws.{on_ok}
use Rattle.kind_rows.proofs.structs.put_struct.Goals as goal

pub returns : goal.returns
returns g c =
    let names = g.N.Referred.names c.args.names.now in
    let all = lines_of (struct c.args.name.now c.args.version (map field_tree c.args.fields.now)) in
    on_ok c.put_fields.result _ _
    (λ e. e ∙ ap (λ (rows : Values). with_lines names (drop 2 all) rows) c.in_ok-put_version.ensures ∙ ap (λ (rows : Values). with_lines names (drop 1 all) rows) c.in_ok-put_type.ensures)
    c.put_fields.ensures

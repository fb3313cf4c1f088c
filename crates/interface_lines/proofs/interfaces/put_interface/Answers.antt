use Rattle.std.proofs.Common.{◌∙◌, map, ap, drop}
use Rattle.md_schema.specs.declared.table.Table.TheVariants as tables
use Rattle.row_writer.specs.Known.{Values}
use Rattle.winmd_lines.specs.Lines.{To}
use Rattle.winmd_sets.specs.Declared.{lines_of, typed}
use Rattle.wr_base.specs.Trees.{interface, member_tree, tree_of}
use Rattle.part_rows.specs.Grown.{with_line, with_lines}
use Rattle.kind_rows.specs.Said.{said}
use Rattle.kind_rows.proofs.LoopLaws.{on_ok}
use Rattle.interface_lines.proofs.interfaces.put_interface.Goals as goal

pub returns : goal.returns
returns g c =
    let names = g.N.Referred.names c.args.names.now in
    let all = lines_of (interface c.args.name.now c.args.version c.args.id c.args.owner.now (map tree_of c.args.requires_.now) (map member_tree c.args.members.now)) in
    on_ok c.put_interface_body.result _ _
    (λ e. e ∙ ap (λ (rows : Values). with_lines names (drop 1 all) rows)
    (c.in_ok-put_baseless.ensures ∙ (λ i. with_line names (typed (c.flags_of.ensures i) c.args.name.now (To tables.TypeDef 0)) (said c.args.out.now))))
    (c.put_interface_body.ensures c.args.name.now)

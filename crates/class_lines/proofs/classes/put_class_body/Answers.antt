use Rattle.std.proofs.Common.{◌∙◌, List, [], ◌∷◌, ◌++◌, map, option_map, ap}
use Rattle.std.specs.List.{flat_map}
use Rattle.md_schema.specs.declared.table.Table.TheVariants as tables
use Rattle.row_writer.specs.Known.{Values}
use Rattle.winmd_lines.specs.Lines.{Line}
use Rattle.winmd_lines.specs.Makers as makers
use Rattle.winmd_sets.specs.Declared.{class_interface, named_attribute}
use Rattle.winmd_sets.specs.Members.{attribute, when}
use Rattle.winmd_sets.specs.Values.{number_argument}
use Rattle.wr_base.specs.Trees.{tree_of}
use Rattle.part_rows.specs.Grown.{with_lines}
use Rattle.kind_rows.proofs.LoopLaws.{on_ok, then_lines}
use Rattle.class_lines.proofs.classes.put_class_body.Goals as goal

pub returns : goal.returns
returns g c name fixed =
    let names = g.N.Referred.names c.args.names.now in
    let interfaces : List Line = flat_map (class_interface (option_map tree_of c.args.default.now)) (map tree_of c.args.has.now) in
    let made : List Line = when c.args.direct (attribute tables.TypeDef makers.Activatable (number_argument c.args.version) ∷ [])
    ++ (map (named_attribute makers.Factory c.args.version) c.args.factories.now ++ map (named_attribute makers.Static c.args.version) c.args.statics.now) in
    on_ok c.put_made.result _ _
    (λ e. then_lines names interfaces made _ _ _ c.in_ok-put_class_interfaces.ensures e ∙ ap (λ (rows : Values). with_lines names (interfaces ++ made) rows) c.in_ok-put_version.ensures)
    c.put_made.ensures

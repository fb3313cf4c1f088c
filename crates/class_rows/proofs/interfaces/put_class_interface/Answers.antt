use Rattle.std.proofs.Common.{◌∙◌, [], ◌∷◌, option_map}
use Rattle.md_schema.specs.declared.table.Table.TheVariants as tables
use Rattle.winmd_lines.specs.Makers as makers
use Rattle.winmd_sets.specs.Declared.{interface_line, is_default}
use Rattle.winmd_sets.specs.Members.{attribute, when}
use Rattle.wr_base.specs.Trees.{tree_of}
use Rattle.kind_rows.specs.Said.{said}
use Rattle.part_rows.specs.Grown.{with_lines}
use Rattle.kind_rows.proofs.LoopLaws.{on_ok, then_lines}
use Rattle.class_rows.proofs.interfaces.put_class_interface.Goals as goal

pub returns : goal.returns
returns g c =
    let names = g.N.Referred.names c.args.names.now in
    on_ok c.put_default.result _ _
    (λ e. then_lines names (interface_line (tree_of c.args.ty.now) ∷ []) (when (is_default (option_map tree_of c.args.default.now) (tree_of c.args.ty.now)) (attribute tables.InterfaceImpl makers.Default [] ∷ []))
    (said c.args.out.now) (said c.put_interface.new.out) (said c.put_default.new.out) c.in_ok-put_interface.ensures
    (e ∙ (λ i. with_lines names (when (c.is_default.ensures i) (attribute tables.InterfaceImpl makers.Default [] ∷ [])) (said c.put_interface.new.out))))
    c.put_default.ensures

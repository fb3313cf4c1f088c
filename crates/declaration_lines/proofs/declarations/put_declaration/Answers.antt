use Rattle.std.proofs.Common.{◌∙◌, map, option_map, ap, sym}
use Rattle.row_writer.specs.Known.{Values}
use Rattle.winmd_lines.specs.Names.{Names}
use Rattle.winmd_sets.specs.Declared.{lines_of}
use Rattle.winmd_sets.specs.Rows.{arranged}
use Rattle.wr_base.specs.declared.declaration.Declaration.{Declaration}
use Rattle.wr_base.specs.Trees.{DeclTree, decl_tree, struct, interface, class, field_tree, member_tree, tree_of}
use Rattle.part_rows.specs.Grown.{with_lines}
use Rattle.kind_rows.specs.Said.{said}
use Rattle.kind_rows.proofs.LoopLaws.{on_ok}
use Rattle.declaration_lines.proofs.declarations.put_declaration.Goals as goal

abbrev drawn : Names → Values → DeclTree → Values
drawn names rows tree = with_lines names (lines_of (arranged names tree)) rows

pub returns-in-Struct : goal.returns-in-Struct
returns-in-Struct g c =
    let names = g.N.Referred.names c.args.names.now in
    on_ok c.put_struct.result _ _
    (λ e. e ∙ (λ i. drawn names (said c.args.out.now) (struct c.in-Struct.name c.in-Struct.version (map field_tree (c.as_slice-in-Struct.ensures i))))
    ∙ ap (λ (d : Declaration). drawn names (said c.args.out.now) (decl_tree d)) (sym c.in-Struct.is))
    c.put_struct.ensures

pub returns-in-Delegate : goal.returns-in-Delegate
returns-in-Delegate g c =
    let names = g.N.Referred.names c.args.names.now in
    on_ok c.put_delegate.result _ _
    (λ e. e ∙ ap (λ (d : Declaration). drawn names (said c.args.out.now) (decl_tree d)) (sym c.in-Delegate.is))
    c.put_delegate.ensures

pub returns-in-Interface : goal.returns-in-Interface
returns-in-Interface g c =
    let names = g.N.Referred.names c.args.names.now in
    on_ok c.put_arranged_interface.result _ _
    (λ e. e
    ∙ (λ i. drawn names (said c.args.out.now)
    (interface c.in-Interface.name c.in-Interface.version c.in-Interface.id c.in-Interface.owner (map tree_of (c.as_slice-in-Interface.ensures i)) (map member_tree (c.as_slice-in-Interface-2.ensures i))))
    ∙ ap (λ (d : Declaration). drawn names (said c.args.out.now) (decl_tree d)) (sym c.in-Interface.is))
    c.put_arranged_interface.ensures

pub returns-in-Class : goal.returns-in-Class
returns-in-Class g c =
    let names = g.N.Referred.names c.args.names.now in
    on_ok c.put_arranged_class.result _ _
    (λ e. e
    ∙ (λ i. drawn names (said c.args.out.now)
    (class c.in-Class.name c.in-Class.version c.in-Class.fixed (option_map tree_of c.in-Class.default) (map tree_of (c.as_slice-in-Class.ensures i)) c.in-Class.direct (c.as_slice-in-Class-2.ensures i)
    (c.as_slice-in-Class-3.ensures i)))
    ∙ ap (λ (d : Declaration). drawn names (said c.args.out.now) (decl_tree d)) (sym c.in-Class.is))
    c.put_arranged_class.ensures

use Rattle.std.proofs.Common.{List, [], ◌∷◌, ◌++◌, map}
use Rattle.winmd_lines.specs.Lines.{Line}
use Rattle.winmd_sets.specs.Declared.{id_of_type, interface_line, owner_of_type, version_of_type}
use Rattle.winmd_sets.specs.Members.{map_lines, members_lines}
use Rattle.wr_base.specs.Trees.{member_tree, tree_of}
use Rattle.kind_rows.proofs.LoopLaws.{on_ok, then_lines}
use Rattle.interface_lines.proofs.interfaces.put_interface_body.Goals as goal

pub returns : goal.returns
returns g c name =
    let names = g.N.Referred.names c.args.names.now in
    let attributes : List Line = id_of_type c.args.id ∷ version_of_type c.args.version ∷ owner_of_type c.args.owner.now in
    let parts : List Line = map interface_line (map tree_of c.args.requires_.now)
    ++ (map_lines (map member_tree c.args.members.now) ++ members_lines [] (map member_tree c.args.members.now)) in
    on_ok c.put_parts.result _ _ (λ e. then_lines names attributes parts _ _ _ c.in_ok-put_attributes.ensures e) c.put_parts.ensures

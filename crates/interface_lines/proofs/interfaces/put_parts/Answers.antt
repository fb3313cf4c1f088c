use Rattle.std.proofs.Common.{List, [], map, ◌++◌}
use Rattle.winmd_lines.specs.Lines.{Line}
use Rattle.winmd_sets.specs.Declared.{interface_line}
use Rattle.winmd_sets.specs.Members.{map_lines, members_lines}
use Rattle.wr_base.specs.Trees.{member_tree, tree_of}
use Rattle.kind_rows.proofs.LoopLaws.{on_ok, then_lines}
use Rattle.interface_lines.proofs.interfaces.put_parts.Goals as goal

pub returns : goal.returns
returns g c =
    let names = g.N.Referred.names c.args.names.now in
    let maps : List Line = map_lines (map member_tree c.args.members.now) in
    let members : List Line = members_lines [] (map member_tree c.args.members.now) in
    on_ok c.put_members.result _ _
    (λ e. then_lines names (map interface_line (map tree_of c.args.requires_.now)) (maps ++ members) _ _ _ c.in_ok-put_interfaces.ensures
    (then_lines names maps members _ _ _ (c.in_ok-put_maps.ensures names) e))
    c.put_members.ensures

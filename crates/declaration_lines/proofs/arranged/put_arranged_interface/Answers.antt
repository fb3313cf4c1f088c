use Rattle.std.proofs.Common.{◌≡◌, ◌∙◌, map, ap}
use Rattle.winmd_sets.specs.Declared.{lines_of}
use Rattle.winmd_sets.specs.Rows.{interfaces_in_order}
use Rattle.wr_base.specs.Trees.{interface, member_tree, tree_of}
use Rattle.part_rows.specs.Grown.{with_lines}
use Rattle.kind_rows.specs.Said.{said}
use Rattle.kind_rows.proofs.LoopLaws.{on_ok}
use Rattle.declaration_lines.proofs.arranged.put_arranged_interface.Goals as goal

pub returns : goal.returns
returns g c =
    let names = g.N.Referred.names c.args.names.now in
    let ordered : map tree_of c.deref.result.now ≡ interfaces_in_order names (map tree_of c.args.requires_.now) = ap (map tree_of) c.deref.ensures.value ∙ c.in_ok-ordered.ensures in
    on_ok c.put_interface.result _ _
    (λ e. e ∙ (λ i. with_lines names (lines_of (interface c.args.name.now c.args.version c.args.id c.args.owner.now (ordered i) (map member_tree c.args.members.now))) (said c.args.out.now)))
    c.put_interface.ensures

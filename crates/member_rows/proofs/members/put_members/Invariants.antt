use Rattle.std.specs.Prelude.{◌≡◌, [], drop, map}
use Rattle.winmd_sets.specs.Members.{members_lines}
use Rattle.winmd_uses.specs.Earlier.{texts_in}
use Rattle.wr_base.specs.Trees.{member_tree}
use Rattle.part_rows.specs.Grown.{with_lines}
use Rattle.kind_rows.specs.Said.{said}
use Rattle.member_rows.proofs.members.put_members.Given as goal

abbrev pub invariant-loop-member : goal.invariant-loop-member
invariant-loop-member g l =
    with_lines (g.N.Referred.names l.names) (members_lines (texts_in l.earlier) (map member_tree (drop l.member-index l.members))) (said l.out)
    ≡ with_lines (g.N.Referred.names l.names) (members_lines [] (map member_tree l.members)) (said l.fn.out)

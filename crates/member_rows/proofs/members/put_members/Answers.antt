use Rattle.std.proofs.Common.{◌≡◌, ◌∙◌, List, get_or, map, ap, string_bytes}
use Rattle.std.specs.Prelude.{String}
use Rattle.std.specs.declared.alloc.Global.{Global}
use Rattle.winmd_sets.specs.Members.{members_lines}
use Rattle.wr_base.specs.declared.declaration.Member.{Member}
use Rattle.wr_base.specs.Trees.{member_tree}
use Rattle.part_rows.specs.Grown.{with_lines}
use Rattle.kind_rows.specs.Said.{said}
use Rattle.member_rows.proofs.MemberLaws.{members_step}
use Rattle.member_rows.proofs.members.put_members.Goals as goal

pub loop-member-init : goal.loop-member-init
loop-member-init g c =
    ap (λ (ks : List (String Global)). with_lines (g.N.Referred.names c.args.names.now) (members_lines (map string_bytes ks) (map member_tree c.args.members.now)) (said c.args.out.now)) c.new-earlier.ensures.empty

pub loop-member-preserved : goal.loop-member-preserved
loop-member-preserved g c =
    let all : List Member = c.args.members.now in
    let x : Member = c.member-item.result in
    let is = c.member-item.is in
    let here : get_or all c.loop-member.member-index x ≡ x = cc in
    members_step (g.N.Referred.names c.args.names.now) all c.loop-member.member-index x c.loop-member.earlier c.note.new.earlier (said c.loop-member.out) (said c.put_member.new.out) c.loop-member-test.true here c.in_ok-put_member.ensures
    c.in_ok-note.ensures
    ∙ c.loop-member.invariant

use Rattle.std.proofs.Common.{map, ◌++◌, []}
use Rattle.std.proofs.lemmas.Result.{err_from_is_err_and}
use Rattle.winmd_sets.specs.Interfaces.{members_of}
use Rattle.winmd_sets.specs.Members.{method_names}
use Rattle.winmd_cells.specs.Seen.{tables_in}
use Rattle.wr_base.specs.Trees.{member_tree}
use Rattle.winmd_members.specs.Earlier.{count_at}
use Rattle.winmd_members.specs.Seen.{item_seen}
use Rattle.winmd_members.proofs.MemberLaws.{member_fails, member_turn}
use Rattle.winmd_members.proofs.members.members_of.Goals as goal

pub each-preserved : goal.each-preserved
each-preserved c =
    let image = c.args.source.now.image in
    let earlier = c.each.invariant.0 in (
      method_names (member_tree c.in_ok-member.member) ++ earlier,
      c.in_ok-note.ensures earlier c.each.invariant.1,
      member_turn image (tables_in image) (count_at c.each.counts) earlier c.each.members.items c.push.new.self.items c.in_ok-member.member c.in-Some.item.now c.in-Some.after.now c.each.rest.now
          (members_of (tables_in image) [] (map (item_seen image) c.args.items.now)) c.each.invariant.1 c.in-Some.ensures.cases.0 c.in_ok-member.ensures c.in_ok-push.ensures.items c.each.invariant.2,
    )

pub returns-in_err-member : goal.returns-in_err-member
returns-in_err-member c =
    let p = err_from_is_err_and c.from_residual.result c.from_residual.ensures.1 in
    let image = c.args.source.now.image in
    rw (p.1, p.2) (member_fails image (tables_in image) (count_at c.each.counts) c.each.invariant.0 c.each.members.items c.in-Some.item.now c.in-Some.after.now c.each.rest.now c.in_err-member.field-0.0
    (members_of (tables_in image) [] (map (item_seen image) c.args.items.now)) c.each.invariant.1 c.in-Some.ensures.cases.0 c.in_err-member.ensures c.each.invariant.2)

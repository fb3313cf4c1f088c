use Rattle.std.proofs.Common.{◌∙◌}
use Rattle.winmd_uses.proofs.MemberLaws.{noted}
use Rattle.member_rows.proofs.members.note.Goals as goal

pub returns-in_ok-from_str-in-Method : goal.returns-in_ok-from_str-in-Method
returns-in_ok-from_str-in-Method c =
    noted c.mark.result c.args.member.now c.in-Method.name c.in-Method.abi c.in-Method.sig c.in_ok-from_str-in-Method.field-0 c.args.earlier.now c.mark.new.names c.in-Method.is (c.in_ok-from_str-in-Method.ensures.ok ∙ c.as_str.ensures) c.mark.ensures

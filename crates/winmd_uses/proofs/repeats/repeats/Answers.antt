use Rattle.std.proofs.Common.{[], ap, map, sym, ◌∙◌}
use Rattle.wr_base.specs.declared.declaration.Member.{Member}
use Rattle.wr_base.specs.Trees.{member_tree}
use Rattle.winmd_uses.specs.Earlier.{is_repeat, names_after}
use Rattle.winmd_uses.proofs.MemberLaws.{names_any}
use Rattle.winmd_uses.proofs.repeats.repeats.Goals as goal

pub returns-in-Method : goal.returns-in-Method
returns-in-Method c =
    c.any_method.ensures ∙ names_any c.in-Method.name c.args.earlier.now
    ∙ sym (ap (λ (m : Member). is_repeat (names_after [] (map member_tree c.args.earlier.now)) (member_tree m)) c.in-Method.is)

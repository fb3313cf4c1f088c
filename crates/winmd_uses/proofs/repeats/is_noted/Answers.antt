use Rattle.std.proofs.Common.{ap, sym, ◌∙◌}
use Rattle.std.specs.BTreeSet.{contains_text}
use Rattle.wr_base.specs.declared.declaration.Member.{Member}
use Rattle.wr_base.specs.Trees.{member_tree}
use Rattle.winmd_uses.specs.Earlier.{is_repeat, texts_in}
use Rattle.winmd_uses.proofs.MemberLaws.{contains_texts}
use Rattle.winmd_uses.proofs.repeats.is_noted.Goals as goal

pub returns-in-Method : goal.returns-in-Method
returns-in-Method c =
    c.contains.ensures ∙ ap (contains_text c.args.earlier.now) c.as_str.ensures ∙ contains_texts c.args.earlier.now c.in-Method.name
    ∙ sym (ap (λ (m : Member). is_repeat (texts_in c.args.earlier.now) (member_tree m)) c.in-Method.is)

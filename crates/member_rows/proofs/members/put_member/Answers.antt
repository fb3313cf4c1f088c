use Rattle.std.proofs.Common.{◌∙◌, ◌≡◌, Bool, ap, sym}
use Rattle.std.specs.BTreeSet.{contains_text}
use Rattle.std.specs.List.{list_any}
use Rattle.std.specs.Str.{bytes_eq}
use Rattle.wr_base.specs.declared.declaration.Member.{Member}
use Rattle.wr_base.specs.Trees.{member_tree, signature_tree}
use Rattle.winmd_sets.specs.Members.{member_lines}
use Rattle.winmd_uses.specs.Earlier.{method_lines_if, texts_in}
use Rattle.winmd_uses.proofs.MemberLaws.{contains_texts}
use Rattle.kind_rows.specs.Said.{said}
use Rattle.part_rows.specs.Grown.{with_lines}
use Rattle.kind_rows.proofs.LoopLaws.{on_ok}
use Rattle.member_rows.proofs.members.put_member.Goals as goal

pub returns-in-Method : goal.returns-in-Method
returns-in-Method g c =
    let names = g.N.Referred.names c.args.names.now in
    let repeated : c.contains.result ≡ list_any (bytes_eq c.in-Method.name) (texts_in c.args.earlier.now) =
    c.contains.ensures ∙ ap (contains_text c.args.earlier.now) c.as_str.ensures ∙ contains_texts c.args.earlier.now c.in-Method.name in
    on_ok c.put_method.result _ _
    (λ e. e ∙ ap (λ (t : Bool). with_lines names (method_lines_if t c.in-Method.name c.in-Method.abi (signature_tree c.in-Method.sig)) (said c.args.out.now)) repeated
    ∙ ap (λ (m : Member). with_lines names (member_lines (texts_in c.args.earlier.now) (member_tree m)) (said c.args.out.now)) (sym c.in-Method.is))
    c.put_method.ensures

pub returns-in-Property : goal.returns-in-Property
returns-in-Property g c =
    let names = g.N.Referred.names c.args.names.now in
    on_ok c.put_property.result _ _
    (λ e. e ∙ ap (λ (m : Member). with_lines names (member_lines (texts_in c.args.earlier.now) (member_tree m)) (said c.args.out.now)) (sym c.in-Property.is))
    c.put_property.ensures

pub returns-in-Event : goal.returns-in-Event
returns-in-Event g c =
    let names = g.N.Referred.names c.args.names.now in
    on_ok c.put_event.result _ _
    (λ e. e ∙ ap (λ (m : Member). with_lines names (member_lines (texts_in c.args.earlier.now) (member_tree m)) (said c.args.out.now)) (sym c.in-Event.is))
    c.put_event.ensures

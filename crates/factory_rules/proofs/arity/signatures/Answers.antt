use Rattle.std.proofs.Common.{◌++◌, ◌∷◌, [], sym, ap, ◌∙◌, refl, take, length, List}
use Rattle.std.specs.List.{filter_map}
use Rattle.std.proofs.lemmas.Option.{slice_get_read}
use Rattle.std.proofs.lemmas.List.Elements.{filter_map-append}
use Rattle.wr_base.specs.declared.declaration.Signature.{Signature}
use Rattle.wr_base.specs.declared.declaration.Member.{Member}
use Rattle.wr_rules.specs.Members.{Standing, signature_in}
use Rattle.wr_rules.specs.MemberRules.{with_spot}
use Rattle.site_parts.proofs.Stood.{one_further}
use Rattle.factory_rules.proofs.arity.signatures.Goals as goal

pub loop-member-preserved : goal.loop-member-preserved
loop-member-preserved c =
    let f = λ (m : Standing Member). with_spot m.spot (signature_in m.part) in
    c.in_ok-push_signature.ensures ∙ ap (λ (xs : List (Standing Signature)). xs ++ filter_map f (c.member-item.result ∷ [])) c.loop-member.invariant
    ∙ sym (filter_map-append f (take c.loop-member.member-index c.args.members.now) (c.member-item.result ∷ []))
    ∙ ap (filter_map f) (sym (one_further c.args.members.now c.loop-member.member-index c.member-item.result
    (slice_get_read c.args.members.now (length c.args.members.now) c.loop-member.member-index c.member-item.result refl c.loop-member-test.true c.member-item.is)))

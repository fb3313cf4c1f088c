use Rattle.std.proofs.Common.{◌++◌, ◌∷◌, [], sym, ap, ◌∙◌, refl, take, length, List, ℕ}
use Rattle.std.specs.List.{filter_map}
use Rattle.std.proofs.lemmas.Option.{slice_get_read}
use Rattle.std.proofs.lemmas.List.Elements.{filter_map-append}
use Rattle.wr_rules.specs.Members.{Standing}
use Rattle.wr_rules.specs.MemberRules.{overload_of}
use Rattle.site_parts.proofs.Stood.{one_further}
use Rattle.member_rules.proofs.overloads.overloads_of.Goals as goal

pub loop-member-preserved : goal.loop-member-preserved
loop-member-preserved c =
    c.in_ok-push_member.ensures ∙ ap (λ (xs : List (Standing (List ℕ))). xs ++ filter_map overload_of (c.member-item.result ∷ [])) c.loop-member.invariant
    ∙ sym (filter_map-append overload_of (take c.loop-member.member-index c.args.members.now) (c.member-item.result ∷ []))
    ∙ ap (filter_map overload_of) (sym (one_further c.args.members.now c.loop-member.member-index c.member-item.result
    (slice_get_read c.args.members.now (length c.args.members.now) c.loop-member.member-index c.member-item.result refl c.loop-member-test.true c.member-item.is)))

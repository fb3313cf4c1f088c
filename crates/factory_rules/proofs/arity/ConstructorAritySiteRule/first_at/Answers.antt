use Rattle.std.proofs.Common.{ap, ◌∙◌}
use Rattle.std.specs.List.{filter_map}
use Rattle.placed_sites.specs.Views.{site_view}
use Rattle.wr_base.specs.declared.declaration.Member.{Member}
use Rattle.wr_rules.specs.Sites.{sites_of}
use Rattle.wr_rules.specs.Members.{Standing, signature_in}
use Rattle.wr_rules.specs.MemberRules.{with_spot}
use Rattle.wr_rules.specs.FactoryRules.{factory_members}
use Rattle.factory_rules.proofs.ArityLaws.{arity_first}
use Rattle.factory_rules.proofs.arity.ConstructorAritySiteRule.first_at.Goals as goal

pub returns : goal.returns
returns c =
    arity_first c.first_repeat.result (factory_members (sites_of c.args.self.now.types.now.types c.args.self.now.types.now.places) (site_view c.args.site.now)) c.as_slice.result.now
    (c.as_slice.ensures.value ∙ c.in_ok-methods.ensures ∙ ap (filter_map (λ (m : Standing Member). with_spot m.spot (signature_in m.part))) (c.deref.ensures.value ∙ c.in_ok-members.ensures)) c.first_repeat.ensures

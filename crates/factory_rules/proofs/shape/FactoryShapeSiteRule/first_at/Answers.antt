use Rattle.std.proofs.Common.{List, ℕ, not, subst, ◌∙◌}
use Rattle.ranked.specs.First.{IsFirst, Among}
use Rattle.ranked.proofs.FirstLaws.{union_as}
use Rattle.placed_sites.specs.Views.{site_view}
use Rattle.wr_base.specs.declared.code.Code.TheVariants.{FactoryShape}
use Rattle.wr_base.specs.declared.declaration.Member.{Member}
use Rattle.wr_rules.specs.Kinds.{named}
use Rattle.wr_rules.specs.Sites.{Spot, If, sites_of, site_name, spot_of}
use Rattle.wr_rules.specs.Members.{Standing, signature_in}
use Rattle.wr_rules.specs.FactoryRules.{factories_of, factory_members, is_found_interface, makes}
use Rattle.factory_rules.proofs.shape.FactoryShapeSiteRule.first_at.Goals as goal

pub returns : goal.returns
returns c =
    let types = c.args.self.now.types.now.types in
    let sites = sites_of types c.args.self.now.types.now.places in
    let s = site_view c.args.site.now in
    union_as (Among (factory_members sites s) (λ (m : Standing Member). If (not (makes (site_name s) (signature_in m.part))) FactoryShape m.spot)) (Among (factories_of s.decl) (λ (name : List ℕ). If (is_found_interface (named types name 0)) FactoryShape (spot_of s)))
    c.in_ok-first.first c.in_ok-second.second c.earlier.result c.earlier.ensures
    (subst (λ (xs : List (Standing Member)). IsFirst (Among xs (λ (m : Standing Member). If (not (makes (site_name s) (signature_in m.part))) FactoryShape m.spot)) c.in_ok-first.first) (c.as_slice.ensures.value ∙ c.in_ok-members.ensures)
    (subst (λ (n : List ℕ). IsFirst (Among c.as_slice.result.now (λ (m : Standing Member). If (not (makes n (signature_in m.part))) FactoryShape m.spot)) c.in_ok-first.first) c.name.ensures c.in_ok-first.ensures))
    (subst (λ (ns : List (List ℕ)). IsFirst (Among ns (λ (name : List ℕ). If (is_found_interface (named types name 0)) FactoryShape (spot_of s))) c.in_ok-second.second) c.factories_of.ensures
    (subst (λ (at : Spot). IsFirst (Among c.factories_of.result.now (λ (name : List ℕ). If (is_found_interface (named types name 0)) FactoryShape at)) c.in_ok-second.second) c.spot.ensures c.in_ok-second.ensures))

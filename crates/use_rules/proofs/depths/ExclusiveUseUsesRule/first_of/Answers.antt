use Rattle.std.proofs.Common.{◌&&◌, false, List, ℕ, subst}
use Rattle.ranked.specs.First.{IsFirst}
use Rattle.ranked.proofs.FirstLaws.{union_as}
use Rattle.wr_base.specs.Trees.{UseTree}
use Rattle.wr_base.specs.declared.code.Code.TheVariants.{ExclusiveUse}
use Rattle.wr_base.specs.declared.declaration.Declaration.{Declaration}
use Rattle.wr_rules.specs.Kinds.{used}
use Rattle.wr_rules.specs.Uses.{Used}
use Rattle.wr_rules.specs.UseRules.{Each, EachInside, is_class_here, is_listed, owned_elsewhere}
use Rattle.use_rules.proofs.depths.ExclusiveUseUsesRule.first_of.Goals as goal

pub returns : goal.returns
returns c =
    let types = c.args.self.now.types.now in
    let s = c.args.gathered.now in
    let elsewhere = λ (d : Declaration). Each types ExclusiveUse (λ (u : Used). owned_elsewhere types (λ (owner : List ℕ). is_listed u.role && is_class_here types d owner) (used types u.use_)) s in
    union_as (elsewhere s.decl) (EachInside types ExclusiveUse (λ (v : UseTree). owned_elsewhere types (λ (owner : List ℕ). false) (used types v)) s) c.in_ok-first.first c.in_ok-second.second
    c.earlier.result c.earlier.ensures (subst (λ (d : Declaration). IsFirst (elsewhere d) c.in_ok-first.first) c.declaration.ensures c.in_ok-first.ensures) c.in_ok-second.ensures

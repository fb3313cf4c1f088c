use Rattle.std.proofs.Common.{ℕ, List, IfOk, map, ap, subst, ◌∙◌}
use Rattle.ranked.specs.First.{IsFirst}
use Rattle.ranked.specs.Repeats.{Repeated}
use Rattle.wr_base.specs.declared.code.Code.TheVariants.{OverloadArity}
use Rattle.wr_rules.specs.Sites.{broken_at}
use Rattle.wr_rules.specs.Members.{Standing}
use Rattle.wr_base.specs.Lower.{lower}
use Rattle.member_rules.specs.Overloads.{key_of, overload_view}
use Rattle.member_rules.specs.declared.overloads.Overload.{Overload}
use Rattle.member_rules.proofs.Keys.{told, keyed}
use Rattle.member_rules.proofs.Viewed.{viewed_repeats}
use Rattle.member_rules.proofs.arity.OverloadAritySiteRule.first_at.Goals as goal

pub returns : goal.returns
returns c =
    subst (λ (os : List (Standing (List ℕ))). IfOk c.first_repeat.result (IsFirst (Repeated (λ o. o.part) (λ o. broken_at OverloadArity o.spot) os)))
    (ap (map overload_view) c.as_slice.ensures.value ∙ c.in_ok-overloads.ensures)
    (viewed_repeats overload_view (λ (o : Overload). key_of o.count (lower o.name.now)) (λ o. o.part) (λ x y e. told x.count y.count (lower x.name.now) (lower y.name.now) e)
    (λ x y e. keyed x.count y.count (lower x.name.now) (lower y.name.now) e) (λ o. broken_at OverloadArity o.spot) c.as_slice.result.now c.first_repeat.result c.first_repeat.ensures)

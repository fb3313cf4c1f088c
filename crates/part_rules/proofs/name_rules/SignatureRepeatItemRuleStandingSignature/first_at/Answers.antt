use Rattle.std.proofs.Common.{List, IfOk, subst, ap, ◌∙◌}
use Rattle.ranked.specs.First.{IsFirst}
use Rattle.ranked.specs.Repeats.{Repeated}
use Rattle.placed_sites.specs.Views.{spot_view}
use Rattle.wr_base.specs.declared.declaration.Param.{Param}
use Rattle.wr_base.specs.declared.code.Code.TheVariants.{ParamRepeat}
use Rattle.wr_rules.specs.Sites.{Spot, broken_at}
use Rattle.wr_base.specs.Lower.{lower}
use Rattle.part_rules.proofs.name_rules.SignatureRepeatItemRuleStandingSignature.first_at.Goals as goal

pub returns : goal.returns
returns c =
    subst (λ (s : Spot). IfOk c.first_repeat.result (IsFirst (Repeated {X = Param} (λ p. lower p.name) (λ p. broken_at ParamRepeat s) c.args.item.now.part.params))) c.spot.ensures
    (subst (λ (xs : List Param). IfOk c.first_repeat.result (IsFirst (Repeated {X = Param} (λ p. lower p.name) (λ p. broken_at ParamRepeat (spot_view c.spot.result)) xs)))
    (c.as_slice.ensures ∙ ap (λ sig. sig.params) c.part.ensures) c.first_repeat.ensures)

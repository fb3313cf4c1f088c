use Rattle.std.proofs.Common.{List, IfOk, subst, ◌∙◌}
use Rattle.ranked.specs.First.{IsFirst}
use Rattle.ranked.specs.Repeats.{Repeated}
use Rattle.wr_base.specs.declared.declaration.Case.{Case}
use Rattle.wr_base.specs.declared.code.Code.TheVariants.{EnumRepeat}
use Rattle.wr_rules.specs.Sites.{broken_at}
use Rattle.wr_rules.specs.Members.{Standing}
use Rattle.wr_base.specs.Lower.{lower}
use Rattle.part_rules.proofs.name_rules.EnumRepeatSiteRule.first_at.Goals as goal

pub returns : goal.returns
returns c =
    subst (λ (xs : List (Standing Case)). IfOk c.first_repeat.result (IsFirst (Repeated (λ x. lower x.part.name) (λ x. broken_at EnumRepeat x.spot) xs)))
    (c.as_slice.ensures.value ∙ c.in_ok-cases.ensures) c.first_repeat.ensures

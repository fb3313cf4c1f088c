use Rattle.std.proofs.Common.{List, IfOk, subst, ◌∙◌}
use Rattle.ranked.specs.First.{IsFirst}
use Rattle.wr_base.specs.declared.declaration.Member.{Member}
use Rattle.wr_base.specs.declared.code.Code.TheVariants.{MemberCase}
use Rattle.wr_rules.specs.Members.{Standing}
use Rattle.wr_rules.specs.MemberRules.{EachPaired, differs_in_case}
use Rattle.member_counts.proofs.member_case.MemberCaseSiteRule.first_at.Goals as goal

pub returns : goal.returns
returns c =
    subst (λ (xs : List (Standing Member)). IfOk c.first_differing.result (IsFirst (EachPaired MemberCase differs_in_case xs))) (c.as_slice.ensures.value ∙ c.in_ok-members.ensures) c.first_differing.ensures

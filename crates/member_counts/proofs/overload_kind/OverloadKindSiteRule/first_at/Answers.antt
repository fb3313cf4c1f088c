use Rattle.std.proofs.Common.{List, IfOk, subst, ◌∙◌}
use Rattle.ranked.specs.First.{IsFirst}
use Rattle.wr_base.specs.declared.declaration.Member.{Member}
use Rattle.wr_base.specs.declared.code.Code.TheVariants.{OverloadKind}
use Rattle.wr_rules.specs.Members.{Standing}
use Rattle.wr_rules.specs.MemberRules.{EachPaired, mixes}
use Rattle.member_counts.proofs.overload_kind.OverloadKindSiteRule.first_at.Goals as goal

pub returns : goal.returns
returns c =
    subst (λ (xs : List (Standing Member)). IfOk c.first_mixed.result (IsFirst (EachPaired OverloadKind mixes xs))) (c.as_slice.ensures.value ∙ c.in_ok-members.ensures) c.first_mixed.ensures

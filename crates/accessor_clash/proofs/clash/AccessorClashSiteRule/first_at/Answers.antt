use Rattle.std.proofs.Common.{◌||◌, List, IfOk, subst, ◌∙◌}
use Rattle.ranked.specs.First.{IsFirst}
use Rattle.wr_base.specs.declared.declaration.Member.{Member}
use Rattle.wr_base.specs.declared.code.Code.TheVariants.{AccessorClash}
use Rattle.wr_rules.specs.Members.{Standing}
use Rattle.wr_rules.specs.MemberRules.{EachPaired, shares_abi, takes_abi}
use Rattle.accessor_clash.proofs.clash.AccessorClashSiteRule.first_at.Goals as goal

pub returns : goal.returns
returns c =
    subst (λ (xs : List (Standing Member)). IfOk c.first_clash.result (IsFirst (EachPaired AccessorClash (λ a b. shares_abi a b || takes_abi a b) xs))) (c.as_slice.ensures.value ∙ c.in_ok-members.ensures) c.first_clash.ensures

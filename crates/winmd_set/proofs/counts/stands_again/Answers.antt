use Rattle.std.proofs.Common.{◌-◌, ℕ, ap, ◌∙◌}
use Rattle.winmd_set.specs.Counts.{count_at}
use Rattle.winmd_set.proofs.CountLaws.{again_is}
use Rattle.winmd_set.proofs.counts.stands_again.Goals as goal

pub returns-clause-again : goal.returns-clause-again
returns-clause-again c = λ rest counts.
    again_is (count_at c.args.counts.now) c.args.stated.now rest c.saturating_sub-count.result
    (c.saturating_sub-count.ensures ∙ ap (λ (n : ℕ). n - 1) (c.count_in.ensures ∙ ap (count_at c.args.counts.now) (c.as_str-name.ensures.value ∙ c.name.ensures))) counts

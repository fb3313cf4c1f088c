use Rattle.md_merge.proofs.MergeLaws.{one_set, not_refused, one_refusal}
use Rattle.md_merge.proofs.laws.one_outcome.Goals as goal

pub returns : goal.returns
returns c = record { sets = one_set; refused = not_refused; refusals = one_refusal }

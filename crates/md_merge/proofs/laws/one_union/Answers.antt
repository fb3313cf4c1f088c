use Rattle.md_merge.proofs.MergeLaws.{one_union}
use Rattle.md_merge.proofs.laws.one_union.Goals as goal

pub returns : goal.returns
returns c = one_union

use Rattle.md_merge.proofs.UnionLaws.{few_together}
use Rattle.md_merge.proofs.laws.few_together.Goals as goal

pub returns : goal.returns
returns c = few_together

use Rattle.md_merge.proofs.MergeLaws.{gives, refuses}
use Rattle.md_merge.proofs.merging.merge.Goals as goal

pub returns-clause-merged : goal.returns-clause-merged
returns-clause-merged c types m = gives c.args.sets.now types c.merged.result c.merged.ensures.ok c.merged.ensures.refused m

pub returns-clause-refusal : goal.returns-clause-refusal
returns-clause-refusal c refusal h = refuses c.args.sets.now refusal c.merged.result c.merged.ensures.ok c.merged.ensures.refused h

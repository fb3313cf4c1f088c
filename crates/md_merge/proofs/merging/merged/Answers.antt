use Rattle.md_merge.proofs.MergeLaws.{normal_sets, proper_union}
use Rattle.md_merge.proofs.merging.merged.Goals as goal

pub united-requires-clause-normal : goal.united-requires-clause-normal
united-requires-clause-normal c = normal_sets c.args.sets.now c.requires.each

pub accepted_union-requires-clause-proper : goal.accepted_union-requires-clause-proper
accepted_union-requires-clause-proper c = proper_union c.args.sets.now c.in-Ok.types c.requires.each c.in-Ok.ensures.ok

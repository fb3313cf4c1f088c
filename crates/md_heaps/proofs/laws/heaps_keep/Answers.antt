use Rattle.md_heaps.proofs.HeapLaws.{keeps_same, keeps_on}
use Rattle.md_heaps.proofs.laws.heaps_keep.Goals as goal

pub returns-clause-same : goal.returns-clause-same
returns-clause-same c = keeps_same

pub returns-clause-further : goal.returns-clause-further
returns-clause-further c = keeps_on

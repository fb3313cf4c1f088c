use Rattle.source_set.proofs.LawLemmas.{one_set, no_first, one_first}
use Rattle.source_set.proofs.laws.one_outcome.Goals as goal

pub returns-clause-files : goal.returns-clause-files
returns-clause-files c = λ words files a b. one_set words files a b

pub returns-clause-none : goal.returns-clause-none
returns-clause-none c = λ words files reads name event. no_first words files reads name event

pub returns-clause-first : goal.returns-clause-first
returns-clause-first c = λ words files a b e f. one_first words files a b e f

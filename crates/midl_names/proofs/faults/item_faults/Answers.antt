use Rattle.ranked.proofs.FirstLaws.{union_as}
use Rattle.midl_names.proofs.faults.item_faults.Goals as goal

pub returns : goal.returns
returns c = union_as _ _ _ _ _ c.earlier.ensures c.in_ok-again.ensures c.in_ok-others.ensures

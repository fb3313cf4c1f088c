use Rattle.ranked.proofs.FirstLaws.{union_as}
use Rattle.midl_names.proofs.Firsts.{gives}
use Rattle.midl_names.proofs.faults.name_faults.Goals as goal

pub returns : goal.returns
returns c = union_as _ _ _ _ _ c.earlier.ensures (gives _ _ c.in_ok-found.ensures) c.in_ok-uses.ensures

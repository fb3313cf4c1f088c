use Rattle.writable_sets.proofs.Writing.{each_fits, few_accepted, small_accepted}
use Rattle.writable_sets.proofs.laws.accepted_is_writable.Goals as goal

pub returns-clause-each : goal.returns-clause-each
returns-clause-each c = each_fits

pub returns-clause-few : goal.returns-clause-few
returns-clause-few c = few_accepted

pub returns-clause-small : goal.returns-clause-small
returns-clause-small c = small_accepted

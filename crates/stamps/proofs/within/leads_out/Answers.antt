use Rattle.std.proofs.Common.{arith}
use Rattle.stamps.proofs.within.leads_out.Goals as goal

pub stamp_set-requires : goal.stamp_set-requires
stamp_set-requires c = record { within = λ x h. (let w = c.requires.within x h in let s = c.requires.size in omega (arith, w, s)) }

pub one_leads_out-requires-clause-there : goal.one_leads_out-requires-clause-there
one_leads_out-requires-clause-there c = λ x n. (let t = c.stamp_set.ensures.there x n in let w = c.requires.lower x in omega (arith, t, w))

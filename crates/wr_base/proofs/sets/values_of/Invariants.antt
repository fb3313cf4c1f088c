use Rattle.std.proofs.Common.{◌≡◌, ◌++◌, length, map}
use Rattle.wr_base.proofs.sets.values_of.Given as goal

abbrev pub invariant-loop-item : goal.invariant-loop-item
invariant-loop-item g l = l.set.items ++ map (λ e. e.1) l.rest.entries ≡ map (λ e. e.1) l.initial.rest.entries

abbrev pub decreases-loop-item : goal.decreases-loop-item
decreases-loop-item g l = length l.rest.entries

use Rattle.std.proofs.Common.{◌≡◌, length, take, drop}
use Rattle.std.specs.Ordering.{nat_cmp}
use Rattle.std.specs.Cmp.Lexicographic.{slice_cmp}
use Rattle.std.specs.FinMap as map
use Rattle.wr_base.specs.Sets.{keyed, by_bytes}
use Rattle.wr_base.proofs.sets.by_key.Given as goal

abbrev pub invariant-loop-item : goal.invariant-loop-item
invariant-loop-item g l = record {
  left : l.rest ≡ take (length l.rest) l.initial.rest;
  found : by_bytes l.found.entries ≡ map.entries (map.from_entries {R = slice_cmp nat_cmp} (keyed g.T.Keyed.key (drop (length l.rest) l.initial.rest)));
}

abbrev pub decreases-loop-item : goal.decreases-loop-item
decreases-loop-item g l = length l.rest

use Rattle.std.proofs.Common.{◌≡◌, ◌≤◌, length, map, string_bytes}
use Rattle.image_set.proofs.LoopLemmas.{Progress}
use Rattle.image_set.proofs.set.images.Given as goal

abbrev pub invariant-each : goal.invariant-each
invariant-each g l = record {
  progress : Progress (g.S.Store.held l.fn.store) (map string_bytes l.words) (map string_bytes l.rest) l.sets.items;
  kept : g.S.Store.held l.store ≡ g.S.Store.held l.fn.store;
  later : g.S.Store.faults l.fn.store ≤ g.S.Store.faults l.store;
}

abbrev pub decreases-each : goal.decreases-each
decreases-each g l = length l.rest

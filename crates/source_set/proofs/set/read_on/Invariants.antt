use Rattle.std.proofs.Common.{◌≡◌, ◌≤◌, ◌-◌, List, ℕ, length, vec_len}
use Rattle.source_set.specs.Found.{once, first_names}
use Rattle.source_set.specs.Reads.{sources_in}
use Rattle.source_set.proofs.LoopLemmas.{State}
use Rattle.source_set.proofs.set.read_on.Given as goal

abbrev pub invariant-more : goal.invariant-more
invariant-more g l = record {
  state : (words : List (List ℕ)) → l.fn.names ≡ first_names (once words) → State words (g.S.Store.held l.fn.store) l.names (sources_in l.set) l.left;
  paired : length l.set.texts.items ≡ length l.set.files.items;
  kept : g.S.Store.held l.store ≡ g.S.Store.held l.fn.store;
  later : g.S.Store.faults l.fn.store ≤ g.S.Store.faults l.store;
}

abbrev pub decreases-more : goal.decreases-more
decreases-more g l = 257 - vec_len l.set.files

use Rattle.std.proofs.Common.{length, ◌-◌, ◌≡◌, ◌≤◌, take, IfSome}
use Rattle.wr_outside.specs.Files.{content_of}
use Rattle.wr_outside.proofs.whole.fill.Given as goal

abbrev pub invariant-loop-filled : goal.invariant-loop-filled
invariant-loop-filled g l = record {
  within : l.filled ≤ length l.into;
  told : IfSome (g.S.Store.held l.initial.store) (λ files. take l.filled l.into ≡ take l.filled (content_of files l.name));
  kept : g.S.Store.held l.store ≡ g.S.Store.held l.initial.store;
  later : g.S.Store.faults l.initial.store ≤ g.S.Store.faults l.store;
}

abbrev pub decreases-loop-filled : goal.decreases-loop-filled
decreases-loop-filled g l = length l.into - l.filled

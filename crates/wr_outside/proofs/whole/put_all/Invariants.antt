use Rattle.std.proofs.Common.{length, ◌-◌, ◌≡◌, ◌≤◌, take}
use Rattle.wr_outside.specs.Files.{with_put}
use Rattle.wr_outside.proofs.whole.put_all.Given as goal

abbrev pub invariant-loop-put : goal.invariant-loop-put
invariant-loop-put g l = record {
  within : l.put ≤ length l.bytes;
  told : g.O.Sink.told l.sink ≡ with_put (g.O.Sink.told l.initial.sink) (take l.put l.bytes);
  later : g.O.Sink.faults l.initial.sink ≤ g.O.Sink.faults l.sink;
}

abbrev pub decreases-loop-put : goal.decreases-loop-put
decreases-loop-put g l = length l.bytes - l.put

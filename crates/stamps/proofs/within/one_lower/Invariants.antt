use Rattle.std.proofs.Common.{◌≤◌, ℕ, take}
use Rattle.chains.specs.Graphs.{In}
use Rattle.stamps.specs.Shared.{stamp_in}
use Rattle.stamps.proofs.within.one_lower.Given as goal

abbrev pub invariant-loop-x : goal.invariant-loop-x
invariant-loop-x l = (x : ℕ) → In x (take l.x-index l.list) → l.mine ≤ stamp_in l.stamps x

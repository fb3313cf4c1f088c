use Rattle.std.proofs.Common.{ℕ, List, length}
use Rattle.md_merge.specs.Neighbours.{AllAgree, FirstDiffers}
use Rattle.md_merge.proofs.conflicts.first_from.Given as goal

abbrev pub invariant-each : goal.invariant-each
invariant-each l = record {
  agree : AllAgree l.last l.rest → AllAgree l.fn.first l.fn.rest;
  differs : (name : List ℕ) → FirstDiffers l.last l.rest name → FirstDiffers l.fn.first l.fn.rest name;
}

abbrev pub decreases-each : goal.decreases-each
decreases-each l = length l.rest

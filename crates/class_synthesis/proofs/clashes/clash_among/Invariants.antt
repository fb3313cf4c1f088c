use Rattle.std.proofs.Common.{IsTrue}
use Rattle.ranked.specs.First.{IsFirst, Below, At, Only}
use Rattle.class_synthesis.specs.Clashes.{clash_entry}
use Rattle.class_synthesis.specs.Taken.{is_taken}
use Rattle.class_synthesis.proofs.clashes.clash_among.Given as goal

abbrev pub invariant-loop-name : goal.invariant-loop-name
invariant-loop-name l = IsFirst (Below l.name-index (At l.names (λ n. Only (IsTrue (is_taken l.fn.taken n)) (clash_entry l.fn.at n)))) l.first

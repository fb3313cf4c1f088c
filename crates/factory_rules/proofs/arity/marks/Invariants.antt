use Rattle.std.proofs.Common.{◌≡◌, replicate, string_bytes}
use Rattle.factory_rules.proofs.arity.marks.Given as goal

abbrev pub invariant-loop-i : goal.invariant-loop-i
invariant-loop-i l = string_bytes l.text ≡ replicate l.i 44

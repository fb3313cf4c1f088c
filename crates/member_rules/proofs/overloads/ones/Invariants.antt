use Rattle.std.proofs.Common.{◌≡◌, string_bytes}
use Rattle.member_rules.specs.Overloads.{ones}
use Rattle.member_rules.proofs.overloads.ones.Given as goal

abbrev pub invariant-loop-i : goal.invariant-loop-i
invariant-loop-i l = string_bytes l.text ≡ ones l._i

use Rattle.std.proofs.Common.{◌≡◌, ◌-◌}
use Rattle.md_tables.specs.Faults.{first_from, is_unknown}
use Rattle.md_tables.proofs.bits.has_unknown.Given as goal

abbrev pub invariant-loop-n : goal.invariant-loop-n
invariant-loop-n l = first_from (is_unknown l.valid) l.n (64 - l.n) ≡ first_from (is_unknown l.valid) 0 64

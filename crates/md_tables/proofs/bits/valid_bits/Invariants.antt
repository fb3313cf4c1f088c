use Rattle.std.proofs.Common.{◌≡◌, ◌≤◌, length, drop}
use Rattle.md_schema.specs.Written.{bits}
use Rattle.md_tables.proofs.bits.valid_bits.Given as goal

abbrev pub invariant-loop-n : goal.invariant-loop-n
invariant-loop-n l = (l.value ≡ bits (drop l.n l.rows)) × (l.n ≤ length l.rows)

abbrev pub decreases-loop-n : goal.decreases-loop-n
decreases-loop-n l = l.n

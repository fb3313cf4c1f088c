use Rattle.std.proofs.Common.{◌≡◌, ◌++◌, ◌-◌}
use Rattle.md_bytes.specs.Padding.{zeros}
use Rattle.md_bytes.proofs.padding.put_zeros.Given as goal

abbrev pub invariant-loop : goal.invariant-loop
invariant-loop l = l.out.items ++ zeros (l.count - l.counter) ≡ l.fn.out.items ++ zeros l.count

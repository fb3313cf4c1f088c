use Rattle.std.proofs.Common.{◌≡◌, ◌++◌, drop}
use Rattle.md_bytes.specs.Padding.{words}
use Rattle.md_bytes.proofs.numbers.put_numbers.Given as goal

abbrev pub invariant-loop-n : goal.invariant-loop-n
invariant-loop-n l = l.out.items ++ words l.width (drop l.n-index l.numbers) ≡ l.fn.out.items ++ words l.width l.numbers

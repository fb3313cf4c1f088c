use Rattle.std.proofs.Common.{◌≡◌, ◌<◌, ℕ, None, get_or, length}
use Rattle.md_tables.specs.Numbers.{by_number, count_or}
use Rattle.md_tables.specs.Rows.{rows_in}
use Rattle.md_tables.proofs.write.sizes.Given as goal

abbrev pub invariant-loop-n : goal.invariant-loop-n
invariant-loop-n l = (length l.rows ≡ 45) × ((k : ℕ) → k < l.n → get_or l.rows k 0 ≡ count_or (rows_in l.set) (get_or by_number k None))

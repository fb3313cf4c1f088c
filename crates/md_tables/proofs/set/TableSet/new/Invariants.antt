use Rattle.std.proofs.Common.{◌≡◌, ℕ, [], get_or, vec_len}
use Rattle.md_tables.specs.Lists.{lists_in}
use Rattle.md_tables.proofs.set.TableSet.new.Given as goal

abbrev pub invariant-loop : goal.invariant-loop
invariant-loop l = ((k : ℕ) → get_or (lists_in l.tables.items) k [] ≡ []) × (vec_len l.tables ≡ l.counter)

use Rattle.std.proofs.Common.{◌≡◌, ◌≤◌, ℕ, suc, length, get_or}
use Rattle.winmd_sets.specs.Attributes.{owner_of}
use Rattle.winmd_cells.specs.Seen.{tables_in}
use Rattle.winmd_index.proofs.owners.sums.Given as goal

abbrev pub invariant-loop-n : goal.invariant-loop-n
invariant-loop-n l = record {
  count : length l.owners.items ≡ suc l.n;
  last : l.owner ≡ owner_of (tables_in l.image) l.n;
  all_ : (k : ℕ) → k ≤ l.n → get_or l.owners.items k 0 ≡ owner_of (tables_in l.image) k;
}

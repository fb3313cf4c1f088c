use Rattle.std.proofs.Common.{◌≡◌, ◌<◌, ℕ, suc, [], length, get_or}
use Rattle.std.specs.List.{filter}
use Rattle.md_schema.specs.Tables.{upto}
use Rattle.winmd_cells.specs.Indexed.{numbers_in}
use Rattle.winmd_cells.specs.Seen.{tables_in}
use Rattle.winmd_cells.specs.Indexed.{leads_by}
use Rattle.winmd_cells.proofs.indexes.index.Given as goal

abbrev pub invariant-loop-i : goal.invariant-loop-i
invariant-loop-i l = (length l.lists.items ≡ suc (length ((tables_in l.image).rows l.owner)))
    × ((m : ℕ) → m < length l.lists.items → get_or (numbers_in l.lists.items) m [] ≡ filter (leads_by l.image l.keyed l.column l.owner m) (upto 1 l.i))

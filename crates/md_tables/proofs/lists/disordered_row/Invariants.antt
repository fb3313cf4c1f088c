use Rattle.std.proofs.Common.{◌≡◌, ◌-◌, length}
use Rattle.md_tables.specs.Faults.{first_from, is_disordered}
use Rattle.md_tables.specs.Lists.{cells_in}
use Rattle.md_tables.proofs.lists.disordered_row.Given as goal

abbrev pub invariant-loop-row : goal.invariant-loop-row
invariant-loop-row l = first_from (is_disordered (cells_in l.rows) l.column l.members) l.row (length (cells_in l.rows) - l.row) ≡ first_from (is_disordered (cells_in l.rows) l.column l.members) 0 (length (cells_in l.rows))

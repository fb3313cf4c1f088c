use Rattle.std.proofs.Common.{◌≡◌, drop}
use Rattle.found_table.specs.Table.{builtin, row_of, table}
use Rattle.found_table.proofs.table.builtin.Given as goal

-- what is left finds what all find
abbrev pub invariant-loop-place : goal.invariant-loop-place
invariant-loop-place l = builtin l.name ≡ row_of (drop l.place table) l.name

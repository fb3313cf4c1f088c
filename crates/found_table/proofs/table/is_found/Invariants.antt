use Rattle.std.proofs.Common.{◌≡◌, drop}
use Rattle.std.specs.List.{list_any}
use Rattle.std.specs.Str.{bytes_eq}
use Rattle.wr_base.specs.Lower.{lower}
use Rattle.found_table.specs.Table.{is_found, name_of, table}
use Rattle.found_table.proofs.table.is_found.Given as goal

-- what is left has the name if any has
abbrev pub invariant-loop-place : goal.invariant-loop-place
invariant-loop-place l = is_found l.name ≡ list_any (λ row. bytes_eq (lower l.name) (lower (name_of row))) (drop l.place table)

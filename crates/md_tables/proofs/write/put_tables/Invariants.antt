use Rattle.std.proofs.Common.{◌≡◌, ◌++◌, [], get_or, take}
use Rattle.std.specs.List.{flat_map}
use Rattle.md_schema.specs.Schema.{place_of}
use Rattle.md_schema.specs.Written.{rows_bytes}
use Rattle.md_tables.specs.Lists.{lists_in}
use Rattle.md_tables.proofs.write.put_tables.Given as goal

abbrev pub invariant-loop-table : goal.invariant-loop-table
invariant-loop-table l = l.out.items ≡ l.fn.out.items ++ flat_map (rows_bytes l.sizes (λ t. get_or (lists_in l.tables) (place_of t) [])) (take l.table-index l.order)

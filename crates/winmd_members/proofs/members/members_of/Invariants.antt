use Rattle.std.proofs.Common.{◌≡◌, ℕ, List, [], map, length}
use Rattle.winmd_sets.specs.Interfaces.{members_of}
use Rattle.winmd_cells.specs.Seen.{tables_in}
use Rattle.winmd_source.specs.Behind.{behind}
use Rattle.wr_base.specs.Trees.{member_tree}
use Rattle.winmd_members.specs.Earlier.{Counts}
use Rattle.winmd_members.specs.Seen.{item_seen}
use Rattle.winmd_members.proofs.members.members_of.Given as goal

abbrev pub invariant-each : goal.invariant-each
invariant-each l = (earlier : List (List ℕ)) × Counts l.counts earlier
    × (behind (map member_tree l.members.items) (members_of (tables_in l.source.image) earlier (map (item_seen l.source.image) l.rest)) ≡ members_of (tables_in l.source.image) [] (map (item_seen l.source.image) l.fn.items))

abbrev pub decreases-each : goal.decreases-each
decreases-each l = length l.rest

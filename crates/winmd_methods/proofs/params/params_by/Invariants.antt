use Rattle.std.proofs.Common.{◌≡◌, ◌+◌, map, length}
use Rattle.winmd_cells.specs.Seen.{tables_in}
use Rattle.winmd_source.specs.Behind.{behind}
use Rattle.winmd_methods.specs.Seen.{params_by, sequenced_seen}
use Rattle.wr_base.specs.Trees.{param_tree}
use Rattle.winmd_methods.proofs.params.params_by.Given as goal

abbrev pub invariant-each : goal.invariant-each
invariant-each l = (l.n + length l.rest ≡ 1 + length l.fn.params)
    × (behind (map param_tree l.done.items) (params_by (tables_in l.source.image) l.offset (map (sequenced_seen l.source.image) l.rows) l.n (map param_tree l.rest))
    ≡ params_by (tables_in l.source.image) l.offset (map (sequenced_seen l.source.image) l.rows) 1 (map param_tree l.fn.params))

abbrev pub decreases-each : goal.decreases-each
decreases-each l = length l.rest

use Rattle.std.specs.Prelude.{◌≡◌, ◌+◌, map, drop}
use Rattle.winmd_sets.specs.Members.{param_lines}
use Rattle.part_rows.specs.Grown.{with_lines}
use Rattle.wr_base.specs.Trees.{param_tree}
use Rattle.row_writer.specs.Seen.{seen}
use Rattle.part_rows.specs.Nothing.{nothing}
use Rattle.part_rows.proofs.params.put_params.Given as goal

abbrev pub invariant-loop-param : goal.invariant-loop-param
invariant-loop-param l =
    (with_lines nothing (param_lines l.number (map param_tree (drop l.param-index l.params))) (seen l.writer) ≡ with_lines nothing (param_lines 1 (map param_tree l.params)) (seen l.fn.writer))
    × (l.number ≡ l.param-index + 1)

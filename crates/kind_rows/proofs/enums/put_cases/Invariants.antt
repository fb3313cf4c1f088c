use Rattle.std.specs.Prelude.{◌≡◌, drop}
use Rattle.std.specs.List.{flat_map}
use Rattle.row_writer.specs.Seen.{seen}
use Rattle.winmd_sets.specs.Members.{case_lines}
use Rattle.part_rows.specs.Grown.{with_lines}
use Rattle.kind_rows.proofs.enums.put_cases.Given as goal

abbrev pub invariant-loop-case : goal.invariant-loop-case
invariant-loop-case g l =
    with_lines (g.N.Referred.names l.names) (flat_map (case_lines l.name l.flags) (drop l.case-index l.cases)) (seen l.writer)
    ≡ with_lines (g.N.Referred.names l.names) (flat_map (case_lines l.name l.flags) l.cases) (seen l.fn.writer)

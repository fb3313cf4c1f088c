use Rattle.std.specs.Prelude.{◌≡◌, drop, map, string_bytes}
use Rattle.row_writer.specs.Seen.{seen}
use Rattle.winmd_sets.specs.Rows.{ref_line}
use Rattle.part_rows.specs.Grown.{with_lines}
use Rattle.part_rows.specs.Nothing.{nothing}
use Rattle.reference_rows.proofs.refs.put_refs.Given as goal

abbrev pub invariant-loop-full : goal.invariant-loop-full
invariant-loop-full l =
    with_lines nothing (map ref_line (map string_bytes (drop l.full-index l.refs))) (seen l.writer) ≡ with_lines nothing (map ref_line (map string_bytes l.refs)) (seen l.fn.writer)

use Rattle.std.specs.Prelude.{◌≡◌, drop, map}
use Rattle.winmd_sets.specs.Rows.{maker_line}
use Rattle.part_rows.specs.Grown.{with_lines}
use Rattle.kind_rows.specs.Makers.{maker_of}
use Rattle.kind_rows.specs.Said.{said}
use Rattle.used_rows.proofs.constructors.put_makers.Given as goal

abbrev pub invariant-loop-maker : goal.invariant-loop-maker
invariant-loop-maker g l =
    with_lines (g.N.Referred.names l.names) (map maker_line (map maker_of (drop l.maker-index l.makers))) (said l.out)
    ≡ with_lines (g.N.Referred.names l.names) (map maker_line (map maker_of l.makers)) (said l.fn.out)

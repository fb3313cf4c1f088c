use Rattle.std.specs.Prelude.{◌≡◌, drop, map}
use Rattle.winmd_sets.specs.Declared.{interface_line}
use Rattle.wr_base.specs.Trees.{tree_of}
use Rattle.part_rows.specs.Grown.{with_lines}
use Rattle.kind_rows.specs.Said.{said}
use Rattle.class_rows.proofs.interfaces.put_interfaces.Given as goal

abbrev pub invariant-loop-ty : goal.invariant-loop-ty
invariant-loop-ty g l =
    with_lines (g.N.Referred.names l.names) (map interface_line (map tree_of (drop l.ty-index l.uses))) (said l.out)
    ≡ with_lines (g.N.Referred.names l.names) (map interface_line (map tree_of l.uses)) (said l.fn.out)

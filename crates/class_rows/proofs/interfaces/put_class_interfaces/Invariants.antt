use Rattle.std.specs.Prelude.{◌≡◌, drop, map, option_map}
use Rattle.std.specs.List.{flat_map}
use Rattle.winmd_sets.specs.Declared.{class_interface}
use Rattle.wr_base.specs.Trees.{tree_of}
use Rattle.part_rows.specs.Grown.{with_lines}
use Rattle.kind_rows.specs.Said.{said}
use Rattle.class_rows.proofs.interfaces.put_class_interfaces.Given as goal

abbrev pub invariant-loop-ty : goal.invariant-loop-ty
invariant-loop-ty g l =
    with_lines (g.N.Referred.names l.names) (flat_map (class_interface (option_map tree_of l.default)) (map tree_of (drop l.ty-index l.uses))) (said l.out)
    ≡ with_lines (g.N.Referred.names l.names) (flat_map (class_interface (option_map tree_of l.default)) (map tree_of l.uses)) (said l.fn.out)

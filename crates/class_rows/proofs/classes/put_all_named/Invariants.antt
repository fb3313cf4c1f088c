use Rattle.std.specs.Prelude.{◌≡◌, drop, map}
use Rattle.winmd_sets.specs.Declared.{named_attribute}
use Rattle.part_rows.specs.Grown.{with_lines}
use Rattle.kind_rows.specs.Makers.{maker_of}
use Rattle.kind_rows.specs.Said.{said}
use Rattle.class_rows.proofs.classes.put_all_named.Given as goal

abbrev pub invariant-loop-name : goal.invariant-loop-name
invariant-loop-name g l =
    with_lines (g.N.Referred.names l.names) (map (named_attribute (maker_of l.maker) l.version) (drop l.name-index l.list)) (said l.out)
    ≡ with_lines (g.N.Referred.names l.names) (map (named_attribute (maker_of l.maker) l.version) l.list) (said l.fn.out)

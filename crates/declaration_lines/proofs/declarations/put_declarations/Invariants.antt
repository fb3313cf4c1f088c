use Rattle.std.specs.Prelude.{◌≡◌, drop, map}
use Rattle.std.specs.List.{flat_map}
use Rattle.winmd_sets.specs.Declared.{lines_of}
use Rattle.winmd_sets.specs.Rows.{arranged}
use Rattle.wr_base.specs.Trees.{decl_tree}
use Rattle.part_rows.specs.Grown.{with_lines}
use Rattle.kind_rows.specs.Said.{said}
use Rattle.declaration_lines.proofs.declarations.put_declarations.Given as goal

abbrev pub invariant-loop-declaration : goal.invariant-loop-declaration
invariant-loop-declaration g l =
    with_lines (g.N.Referred.names l.names) (flat_map lines_of (map (arranged (g.N.Referred.names l.names)) (map decl_tree (drop l.declaration-index l.declarations)))) (said l.out)
    ≡ with_lines (g.N.Referred.names l.names) (flat_map lines_of (map (arranged (g.N.Referred.names l.names)) (map decl_tree l.declarations))) (said l.fn.out)

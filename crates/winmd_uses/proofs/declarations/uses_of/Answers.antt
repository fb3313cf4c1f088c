use Rattle.std.proofs.Common.{List, map, subst}
use Rattle.std.specs.List.{flat_map}
use Rattle.wr_base.specs.declared.declaration.Declaration.{Declaration}
use Rattle.wr_base.specs.Trees.{decl_tree}
use Rattle.winmd_sets.specs.Declared.{lines_of}
use Rattle.winmd_uses.specs.Takes.{Takes, lines_say}
use Rattle.winmd_uses.proofs.WholeLaws.{whole_set}
use Rattle.winmd_uses.proofs.declarations.uses_of.Goals as goal

pub returns : goal.returns
returns c = whole_set c.args.types.now c.new-used.result c.take_declarations.new.used c.new-used.ensures.types c.new-used.ensures.empty
    (subst (λ (ds : List Declaration). Takes (lines_say (flat_map lines_of (map decl_tree ds))) c.new-used.result c.take_declarations.new.used) c.new-used.ensures.types c.in_ok-take_declarations.ensures)

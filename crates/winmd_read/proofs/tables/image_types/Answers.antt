use Rattle.std.proofs.Common.{subst, map}
use Rattle.winmd_cells.specs.Given.{Gives}
use Rattle.winmd_cells.specs.Seen.{tables_in}
use Rattle.winmd_cells.specs.declared.image.Image.{Image}
use Rattle.winmd_sets.specs.Types.{types_of}
use Rattle.wr_base.specs.Trees.{decl_tree}
use Rattle.winmd_read.proofs.tables.image_types.Goals as goal

pub returns : goal.returns
returns c = subst (λ (image : Image). Gives (map decl_tree) c.source_types.result (types_of (tables_in image))) c.source_of.ensures c.source_types.ensures

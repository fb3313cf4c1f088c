use Rattle.std.proofs.Common.{◌∙◌, ap, subst, map}
use Rattle.winmd_cells.specs.Given.{Gives}
use Rattle.winmd_cells.specs.Seen.{tables_of}
use Rattle.winmd_lines.specs.Cells.{Tables}
use Rattle.winmd_sets.specs.Types.{types_of}
use Rattle.wr_base.specs.Trees.{decl_tree}
use Rattle.winmd_read.proofs.streams.view_types.Goals as goal

pub returns : goal.returns
returns c =
    subst (λ (t : Tables). Gives (map decl_tree) c.image_types.result (types_of t))
    (c.new-2.ensures ∙ ap (λ texts. tables_of c.args.at c.args.stream.now (record { texts = texts; blobs = c.args.blobs.now })) c.in_ok-heap.ensures.bytes)
    c.image_types.ensures

use Rattle.std.proofs.Common.{◌≡◌, ◌∙◌, List, map, ap}
use Rattle.winmd_lines.specs.Names.{Names}
use Rattle.winmd_sets.specs.Rows.{spec_line}
use Rattle.wr_base.specs.Trees.{UseTree, tree_of}
use Rattle.part_rows.specs.Grown.{with_lines}
use Rattle.kind_rows.specs.Said.{said}
use Rattle.kind_rows.proofs.LoopLaws.{on_ok}
use Rattle.set_referred.specs.Referred.{names_in}
use Rattle.winmd_write.proofs.sets.put_instances.Goals as goal

pub returns : goal.returns
returns c =
    let names : Names = names_in c.args.names.now in
    let specs : map tree_of c.specs.result.now ≡ names.specs = c.specs.ensures ∙ ap (λ (n : Names). n.specs) c.names.ensures in
    on_ok c.put_specs.result _ _ (λ e. e ∙ ap (λ (us : List UseTree). with_lines names (map spec_line us) (said c.args.out.now)) specs) c.put_specs.ensures

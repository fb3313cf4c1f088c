use Rattle.std.proofs.Common.{◌≡◌, ◌<◌, ◌^◌, ◌∙◌, List, length, map, ap, subst}
use Rattle.row_writer.specs.Known.{Values}
use Rattle.row_writer.specs.Lines.{no_rows}
use Rattle.winmd_lines.specs.Names.{Names}
use Rattle.winmd_sets.specs.Rows.{all_lines, arranged}
use Rattle.wr_base.specs.Trees.{DeclTree, decl_tree}
use Rattle.part_rows.specs.Grown.{with_lines}
use Rattle.kind_rows.specs.Said.{said}
use Rattle.set_referred.specs.Referred.{names_in}
use Rattle.winmd_write.proofs.ImageLaws.{are_rows, few_refs, if_ok, ok_always, rising}
use Rattle.winmd_write.proofs.image.image_by.Goals as goal

pub returns-clause-strict : goal.returns-clause-strict
returns-clause-strict c =
    let names : Names = names_in c.args.names.now in
    let declared : List DeclTree = map decl_tree c.args.types.now in
    let rows : said c.put_set.new.out ≡ with_lines names (all_lines names (map (arranged names) declared)) no_rows =
    c.in_ok-put_set.ensures.lines ∙ ap (λ (rows : Values). with_lines names (all_lines names (map (arranged names) declared)) rows) c.in_ok-out.ensures in
    if_ok c.finished.result _ _ (λ bytes f. f declared (rising c.args.types.now c.in_ok-put_set.ensures.order.rises) (are_rows names declared (said c.put_set.new.out) c.requires rows)) c.finished.ensures

pub returns-clause-few : goal.returns-clause-few
returns-clause-few c =
    let names : Names = names_in c.args.names.now in
    let declared : List DeclTree = map decl_tree c.args.types.now in
    let rows : said c.put_set.new.out ≡ with_lines names (all_lines names (map (arranged names) declared)) no_rows =
    c.in_ok-put_set.ensures.lines ∙ ap (λ (rows : Values). with_lines names (all_lines names (map (arranged names) declared)) rows) c.in_ok-out.ensures in
    ok_always c.finished.result _ (subst (λ (n : Names). length n.refs < 2 ^ 24) c.requires (few_refs names (map (arranged names) declared) c.put_set.new.out.writer rows))

pub returns-clause-order : goal.returns-clause-order
returns-clause-order c = ok_always c.finished.result _ c.in_ok-put_set.ensures.order

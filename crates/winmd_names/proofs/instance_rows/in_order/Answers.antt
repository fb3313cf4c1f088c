use Rattle.std.proofs.Common.{◌≡◌, List, map, sym, ap, ◌∙◌}
use Rattle.wr_base.proofs.TreeLaws.{text_of-tree_of}
use Rattle.winmd_sets.specs.Rows.{by_text}
use Rattle.winmd_names.specs.Texted.{text_key, tree_in, trees_in}
use Rattle.winmd_names.specs.declared.texted.Texted.{Texted}
use Rattle.winmd_names.proofs.OrderLaws.{sort_is}
use Rattle.winmd_names.proofs.TextLaws.{sorted_trees}
use Rattle.winmd_names.proofs.Results.{if_ok_then}
use Rattle.winmd_names.proofs.instance_rows.in_order.Goals as goal

pub returns : goal.returns
returns c =
    let before : List Texted = c.in_ok-list.list.items in
    let after : List Texted = c.sort_by_text.new.list.items in
    let sorted : trees_in after ≡ by_text (trees_in before) =
    ap (map tree_in) (sort_is text_key before after c.in_ok-sort_by_text.ensures.sorted c.in_ok-sort_by_text.ensures.stable)
    ∙ sorted_trees text_key tree_in (λ (t : Texted). t.agree ∙ sym (text_of-tree_of t.ty)) before in
    if_ok_then c.without_texts.result _ _ (λ uses e. e ∙ sorted ∙ ap by_text c.in_ok-list.ensures) c.without_texts.ensures

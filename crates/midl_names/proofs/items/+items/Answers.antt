use Rattle.std.proofs.Common.{◌≡◌, ◌++◌, ap, sym, subst, ◌∙◌, OnOk, map, List}
use Rattle.midl_tree.specs.declared.nodes.ItemNode.TheVariants.{rolls-Namespace}
use Rattle.midl_tree.specs.declared.nodes.ItemNode.TheFolds.{fold-roll-ItemNode}
use Rattle.midl_tree.specs.declared.nodes.ItemNode.TheOpen.{ItemNode-F}
use Rattle.midl_tree.specs.Trees.{ItemTree}
use Rattle.midl_tree.specs.Views.{item_step, item_view}
use Rattle.midl_names.specs.Items.{Item, items_in, texts}
use Rattle.midl_names.specs.Views.{item_of, parts_of}
use Rattle.midl_names.proofs.Nested.{block}
use Rattle.midl_names.proofs.items.+items.Goals as goal

pub push_item-returns-in_ok-space-in-Namespace : goal.push_item-returns-in_ok-space-in-Namespace
push_item-returns-in_ok-space-in-Namespace t c =
    subst (λ (more : List Item). OnOk c.push_items.result (map item_of c.push_items.new.into.items ≡ map item_of c.args.into.now.items ++ more))
    (block c.args.file (parts_of c.args.around.now) (parts_of c.deref-in-Namespace.result.now) c.in-Namespace.name.items (map item_view c.in-Namespace.nodes.items) (map item_view c.deref-in-Namespace-2.result.now)
    (ap parts_of c.deref-in-Namespace.ensures.value ∙ c.in_ok-space-in-Namespace.ensures ∙ ap (λ ns. parts_of c.args.around.now ++ texts ns) c.deref.ensures.value)
    (ap (map item_view) c.deref-in-Namespace-2.ensures.value)
    ∙ ap (items_in c.args.file (parts_of c.args.around.now))
    (sym (ap item_view (c.in-Namespace.is ∙ sym (rolls-Namespace c.in-Namespace.name c.in-Namespace.nodes)) ∙ fold-roll-ItemNode ItemTree item_step (ItemNode-F.Namespace c.in-Namespace.name c.in-Namespace.nodes))))
    c.push_items.ensures

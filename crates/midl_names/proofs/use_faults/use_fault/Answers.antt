use Rattle.std.proofs.Common.{◌≡◌, ap, sym, subst, ◌∙◌, arith, IfOk, map, Option}
use Rattle.std.proofs.lemmas.List.{length-map}
use Rattle.std.specs.HashMap.{get_by_text}
use Rattle.ranked.specs.Entries.{Entry}
use Rattle.midl_tree.specs.declared.nodes.TypeNode.TheVariants.{rolls-Named}
use Rattle.midl_tree.specs.declared.nodes.TypeNode.TheFolds.{fold-roll-TypeNode}
use Rattle.midl_tree.specs.declared.nodes.TypeNode.TheOpen.{TypeNode-F}
use Rattle.midl_tree.specs.Trees.{TypeTree}
use Rattle.midl_tree.specs.Views.{type_step, type_view}
use Rattle.midl_names.specs.Views.{item_of}
use Rattle.midl_names.proofs.UseLaws.{fault_named}
use Rattle.midl_names.proofs.use_faults.use_fault.Goals as goal

pub returns-in-Named : goal.returns-in-Named
returns-in-Named c =
    subst (λ (o : Option Entry). IfOk c.path_fault.result (λ r. r ≡ o))
    (fault_named (get_by_text c.args.index.now.sorts) (item_of c.args.item.now) c.in-Named.path.items c.deref.result.now (map type_view c.in-Named.arguments.items) (type_view c.args.node.now) c.len.result
    (ap type_view (c.in-Named.is ∙ sym (rolls-Named c.in-Named.path c.in-Named.arguments)) ∙ fold-roll-TypeNode TypeTree type_step (TypeNode-F.Named c.in-Named.path c.in-Named.arguments))
    c.deref.ensures.value
    (omega (arith, length-map c.in-Named.arguments.items type_view)))
    c.path_fault.ensures

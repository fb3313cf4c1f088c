use Rattle.std.proofs.Common.{ap, sym, ◌∙◌, map, take, arith}
use Rattle.std.proofs.lemmas.List.{take_all}
use Rattle.std.specs.HashMap.{get_by_text}
use Rattle.midl_tree.specs.declared.nodes.TypeNode.TheVariants.{rolls-Named}
use Rattle.midl_tree.specs.declared.nodes.TypeNode.TheFolds.{fold-roll-TypeNode}
use Rattle.midl_tree.specs.declared.nodes.TypeNode.TheOpen.{TypeNode-F}
use Rattle.midl_tree.specs.Trees.{TypeTree}
use Rattle.midl_tree.specs.Views.{type_step, type_view}
use Rattle.midl_names.specs.Views.{parts_of}
use Rattle.midl_names.proofs.UsesResolved.{resolved_here}
use Rattle.midl_names.proofs.resolved.+resolved.Goals as goal

pub returns-in_ok-found-in-Named : goal.returns-in_ok-found-in-Named
returns-in_ok-found-in-Named t c =
    c.use_of.ensures
    ∙ resolved_here (get_by_text c.args.scope.now.index.now.sorts) (parts_of c.args.scope.now.item.now.space.items) c.in-Named.path.items c.deref.result.now (map type_view c.in-Named.arguments.items)
    (map type_view (take c.loop-argument.argument-index c.deref-argument-items.result.now)) (type_view c.args.node.now) c.in_ok-found-in-Named.found c.loop-argument.uses
    (ap type_view (c.in-Named.is ∙ sym (rolls-Named c.in-Named.path c.in-Named.arguments)) ∙ fold-roll-TypeNode TypeTree type_step (TypeNode-F.Named c.in-Named.path c.in-Named.arguments))
    (ap (map type_view) (take_all c.loop-argument.argument-index c.deref-argument-items.result.now (omega arith) ∙ c.deref-argument-items.ensures.value))
    c.deref.ensures.value c.in_ok-found-in-Named.ensures c.loop-argument.invariant

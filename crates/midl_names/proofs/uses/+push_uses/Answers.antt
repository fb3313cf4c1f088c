use Rattle.std.proofs.Common.{◌++◌, ap, sym, ◌∙◌, map, take, List, arith}
use Rattle.std.proofs.lemmas.List.{take_all}
use Rattle.midl_tree.specs.declared.nodes.TypeNode.TheVariants.{rolls-Named}
use Rattle.midl_tree.specs.declared.nodes.TypeNode.TheFolds.{fold-roll-TypeNode}
use Rattle.midl_tree.specs.declared.nodes.TypeNode.TheOpen.{TypeNode-F}
use Rattle.midl_tree.specs.Trees.{TypeTree}
use Rattle.midl_tree.specs.Views.{type_step, type_view}
use Rattle.midl_names.specs.Views.{types_of}
use Rattle.midl_names.proofs.Nested.{use_here}
use Rattle.midl_names.proofs.uses.+push_uses.Goals as goal

pub returns-after-loop-argument : goal.returns-after-loop-argument
returns-after-loop-argument t c =
    c.loop-argument.invariant
    ∙ ap (λ (more : List TypeTree). types_of c.args.into.now.items ++ more)
    (use_here c.in-Named.field-0.items (map type_view c.in-Named.arguments.items) (map type_view (take c.loop-argument.argument-index c.deref-argument-items.result.now)) (type_view c.args.node.now)
    (ap type_view (c.in-Named.is ∙ sym (rolls-Named c.in-Named.field-0 c.in-Named.arguments)) ∙ fold-roll-TypeNode TypeTree type_step (TypeNode-F.Named c.in-Named.field-0 c.in-Named.arguments))
    (ap (map type_view) (take_all c.loop-argument.argument-index c.deref-argument-items.result.now (omega arith) ∙ c.deref-argument-items.ensures.value)))

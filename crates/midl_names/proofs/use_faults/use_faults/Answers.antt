use Rattle.std.proofs.Common.{rules, arith, subst, List}
use Rattle.std.specs.HashMap.{get_by_text}
use Rattle.ranked.specs.First.{IsFirst, Among}
use Rattle.ranked.proofs.FirstLaws.{none_below}
use Rattle.midl_tree.specs.Trees.{TypeTree}
use Rattle.midl_tree.specs.Views.{type_view}
use Rattle.midl_names.specs.Faults.{Gives}
use Rattle.midl_names.specs.Uses.{use_fault}
use Rattle.midl_names.specs.Views.{item_of, types_of}
use Rattle.midl_names.proofs.Firsts.{viewed, one_more_given}
use Rattle.midl_names.proofs.use_faults.use_faults.Goals as goal

pub loop-node-init : goal.loop-node-init
loop-node-init c = none_below _

pub loop-node-preserved : goal.loop-node-preserved
loop-node-preserved c = one_more_given _ _ _ _ _ _ _ c.node-item.is c.earlier-first.ensures c.loop-node.invariant c.in_ok-use_fault.ensures (search rules)

pub returns : goal.returns
returns c =
    subst (λ (us : List TypeTree). IsFirst (Among us (λ u. Gives (use_fault (get_by_text c.args.index.now.sorts) (item_of c.args.item.now) u))) c.loop-node.first)
    c.in_ok-uses.ensures
    (subst (λ xs. IsFirst (Among (types_of xs) (λ u. Gives (use_fault (get_by_text c.args.index.now.sorts) (item_of c.args.item.now) u))) c.loop-node.first)
    c.deref-node-items.ensures.value
    (viewed (λ t. type_view t.now) c.deref-node-items.result.now (λ u. Gives (use_fault (get_by_text c.args.index.now.sorts) (item_of c.args.item.now) u)) c.loop-node.node-index c.loop-node.first c.loop-node.invariant (omega arith)))
